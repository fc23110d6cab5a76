use Rattle.std.proofs.Common.{rules, ◌≡◌, ◌∷◌, ◌∙◌, ℕ, List, [], Option, map, subst, sym, true, false}
use Rattle.std.specs.Prelude.{is_ok}
use Rattle.liquid_files.specs.meaning.Files.{Request, known_in, reading}
use Rattle.liquid_value.specs.meaning.View.{members_view}
use Rattle.page_site.specs.meaning.Requested.{Follows}
use Rattle.page_site.proofs.RequestLemmas.{follows_stop, follows_then}
use Rattle.liquid_page.specs.meaning.Names.{ReadsOver, path_in}
use Rattle.liquid_page.proofs.NameLemmas.{data_joined}
use Rattle.liquid_page.proofs.names.+read_all.Goals as goal

pub returns-in_err-names-in-Some-clause-requests : goal.returns-in_err-names-in-Some-clause-requests
returns-in_err-names-in-Some-clause-requests g t c =
    let f : List ℕ → Request = λ word. reading (path_in word) in
    let word = c.in-Some.word.now.now in
    let rest = map f (map (λ word. word.now) c.in-Some.rest.now) in
    let all : map f (map (λ word. word.now) c.args.words.now) ≡ f word ∷ rest = search rules in
    let failed : is_ok c.from_residual.result ≡ false = search rules in
    let before = g.F.Folder.requests c.args.files.now in
    let after = g.F.Folder.requests c.read_over.new.files in
    subst (λ requests. Follows requests before after (is_ok c.from_residual.result)) (sym all)
    (follows_stop (f word ∷ []) rest before after (is_ok c.read_over.result)
    (is_ok c.from_residual.result) failed c.read_over.ensures.requests)

pub returns-in_ok-names-in-Some-clause-requests : goal.returns-in_ok-names-in-Some-clause-requests
returns-in_ok-names-in-Some-clause-requests g t c =
    let f : List ℕ → Request = λ word. reading (path_in word) in
    let word = c.in-Some.word.now.now in
    let rest = map f (map (λ word. word.now) c.in-Some.rest.now) in
    let all : map f (map (λ word. word.now) c.args.words.now) ≡ f word ∷ rest = search rules in
    let done : is_ok c.read_over.result ≡ true = search rules in
    let before = g.F.Folder.requests c.args.files.now in
    let between = g.F.Folder.requests c.read_over.new.files in
    let after = g.F.Folder.requests c.read_all.new.files in
    subst (λ requests. Follows requests before after (is_ok c.read_all.result)) (sym all)
    (follows_then (f word ∷ []) rest before between after (is_ok c.read_all.result)
    (subst (λ b. Follows (f word ∷ []) before between b) done c.read_over.ensures.requests) c.read_all.ensures.requests)

pub returns-in_ok-names-in-Some-clause-read : goal.returns-in_ok-names-in-Some-clause-read
returns-in_ok-names-in-Some-clause-read g t c = λ all known.
    let words : map (λ word. word.now) c.args.words.now ≡ c.in-Some.word.now.now
    ∷ map (λ word. word.now) c.in-Some.rest.now = search rules in
    let was = c.read_over.ensures.read all known in
    let first : ReadsOver all c.in-Some.word.now.now (members_view c.args.names.entries)
    (members_view c.in_ok-names-in-Some.names.entries) =
    search rules in
    data_joined (λ object. members_view object.entries) c.read_all.result all
    (map (λ word. word.now) c.args.words.now) c.in-Some.word.now.now
    (map (λ word. word.now) c.in-Some.rest.now) (members_view c.args.names.entries) (members_view c.in_ok-names-in-Some.names.entries)
    words first (c.read_all.ensures.read all (c.read_over.ensures.same ∙ known))
