use Rattle.std.proofs.Common.{rules, ◌≡◌, ◌∷◌, [], ◌∙◌, ap, subst, sym, map, true, string_bytes, List, ℕ, Bool, Option, Some, Ok}
use Rattle.liquid_files.specs.meaning.Files.{Reads}
use Rattle.page_site.proofs.PartialLemmas.{listed_names, partials_listed}
use Rattle.std.specs.Prelude.{is_ok}
use Rattle.std.specs.Option.{unwrap_or}
use Rattle.liquid_files.specs.meaning.Files.{listed_in, listing, reading}
use Rattle.page_site.specs.meaning.Items.{file_in}
use Rattle.page_site.specs.meaning.Requested.{Follows, partial_requests}
use Rattle.page_site.proofs.RequestLemmas.{follows_one, follows_then}
use Rattle.page_site.proofs.partials.read_partials.Goals as goal

pub returns-in-Ok-clause-partials : goal.returns-in-Ok-clause-partials
returns-in-Ok-clause-partials g c = λ all folders known listed.
    let folder = c.args.folder.now in
    partials_listed c.read_each.result c.args.called all folder (map string_bytes c.in-Ok.names.items) (folders true folder)
    (listed_names (λ names. map string_bytes names.items) (folders true folder) c.in-Ok.names
    (subst (λ (f : Bool → List ℕ → Option (Option (List (List ℕ)))).
    Reads (λ names. map string_bytes names.items) (f true folder) (Ok c.in-Ok.names))
    listed c.in-Ok.ensures.lists))
    (c.read_each.ensures.partials all (c.list_tree.ensures.same ∙ known))

pub returns-in-Ok-clause-requests : goal.returns-in-Ok-clause-requests
returns-in-Ok-clause-requests g c = λ folders listed.
    let folder = c.args.folder.now in
    let names = map string_bytes c.in-Ok.names.items in
    let there : folders true folder ≡ Some names =
    listed_names (λ names. map string_bytes names.items) (folders true folder) c.in-Ok.names
    (subst (λ (f : Bool → List ℕ → Option (Option (List (List ℕ)))).
    Reads (λ names. map string_bytes names.items) (f true folder) (Ok c.in-Ok.names))
    listed c.in-Ok.ensures.lists) in
    let before = g.F.Folder.requests c.args.files.now in
    let between = g.F.Folder.requests c.list_tree.new.self in
    let after = g.F.Folder.requests c.read_each.new.files in
    let done = is_ok c.read_each.result in
    subst (λ (n : Option (List (List ℕ))).
    Follows (listing true folder ∷ map (λ name. reading (file_in folder name)) (unwrap_or n [])) before after done)
    (sym there)
    (follows_then (listing true folder ∷ []) (map (λ name. reading (file_in folder name)) names) before between after done
    (follows_one (listing true folder) before between true c.list_tree.ensures.requests) c.read_each.ensures.requests)
