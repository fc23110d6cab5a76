use Rattle.std.proofs.Common.{rules, ◌≡◌, ◌∷◌, ℕ, List, [], map, string_bytes, subst, false}
use Rattle.std.specs.Prelude.{is_ok}
use Rattle.liquid_files.specs.meaning.Files.{Request, also, reading}
use Rattle.page_site.specs.meaning.Items.{file_in}
use Rattle.page_site.proofs.RequestLemmas.{Reaching, reaching_next, reaching_stop}
use Rattle.page_site.proofs.partials.read_each.Goals as goal

pub returns-in_err-text-clause-requests : goal.returns-in_err-text-clause-requests
returns-in_err-text-clause-requests g c =
    let f : List ℕ → Request = λ name. reading (file_in c.args.folder.now name) in
    let rest : map f (map string_bytes c.loop-name.name-iterator.rest.items)
    ≡ f (string_bytes c.in-Some.name) ∷ map f (map string_bytes c.next.new.self.rest.items) =
    search rules in
    let made : g.F.Folder.requests c.read_text.new.files
    ≡ also (g.F.Folder.requests c.loop-name.files) (f (string_bytes c.in-Some.name) ∷ []) =
    search rules in
    let before = g.F.Folder.requests c.args.files.now in
    let all = map f (map string_bytes c.args.names.items) in
    let left = map f (map string_bytes c.next.new.self.rest.items) in
    let reached = reaching_next all (f (string_bytes c.in-Some.name)) left before (g.F.Folder.requests c.loop-name.files)
    (g.F.Folder.requests c.read_text.new.files)
    (subst (λ r. Reaching all r before (g.F.Folder.requests c.loop-name.files)) rest c.loop-name.invariant.requests) made in
    let failed : is_ok c.from_residual-in_err-text.result ≡ false = search rules in
    reaching_stop all left before (g.F.Folder.requests c.read_text.new.files) (is_ok c.from_residual-in_err-text.result) failed reached

pub returns-in_err-add-clause-requests : goal.returns-in_err-add-clause-requests
returns-in_err-add-clause-requests g c =
    let f : List ℕ → Request = λ name. reading (file_in c.args.folder.now name) in
    let rest : map f (map string_bytes c.loop-name.name-iterator.rest.items)
    ≡ f (string_bytes c.in-Some.name) ∷ map f (map string_bytes c.next.new.self.rest.items) =
    search rules in
    let made : g.F.Folder.requests c.read_text.new.files
    ≡ also (g.F.Folder.requests c.loop-name.files) (f (string_bytes c.in-Some.name) ∷ []) =
    search rules in
    let before = g.F.Folder.requests c.args.files.now in
    let all = map f (map string_bytes c.args.names.items) in
    let left = map f (map string_bytes c.next.new.self.rest.items) in
    let reached = reaching_next all (f (string_bytes c.in-Some.name)) left before (g.F.Folder.requests c.loop-name.files)
    (g.F.Folder.requests c.read_text.new.files)
    (subst (λ r. Reaching all r before (g.F.Folder.requests c.loop-name.files)) rest c.loop-name.invariant.requests) made in
    let failed : is_ok c.from_residual-in_err-add.result ≡ false = search rules in
    reaching_stop all left before (g.F.Folder.requests c.read_text.new.files) (is_ok c.from_residual-in_err-add.result) failed reached

pub loop-name-preserved : goal.loop-name-preserved
loop-name-preserved g c =
    let f : List ℕ → Request = λ name. reading (file_in c.args.folder.now name) in
    let rest : map f (map string_bytes c.loop-name.name-iterator.rest.items)
    ≡ f (string_bytes c.in-Some.name) ∷ map f (map string_bytes c.next.new.self.rest.items) =
    search rules in
    let made : g.F.Folder.requests c.read_text.new.files
    ≡ also (g.F.Folder.requests c.loop-name.files) (f (string_bytes c.in-Some.name) ∷ []) =
    search rules in
    let before = g.F.Folder.requests c.args.files.now in
    let all = map f (map string_bytes c.args.names.items) in
    let left = map f (map string_bytes c.next.new.self.rest.items) in
    let reached = reaching_next all (f (string_bytes c.in-Some.name)) left before (g.F.Folder.requests c.loop-name.files)
    (g.F.Folder.requests c.read_text.new.files)
    (subst (λ r. Reaching all r before (g.F.Folder.requests c.loop-name.files)) rest c.loop-name.invariant.requests) made in
    record { same = search rules; listed = search rules; partials = search rules; requests = reached }
