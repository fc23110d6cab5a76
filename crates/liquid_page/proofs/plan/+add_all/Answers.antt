use Rattle.std.proofs.Common.{rules, ◌≡◌, ◌∷◌, ◌++◌, ◌∙◌, ℕ, List, [], Bool, Option, map, subst, sym, true, false}
use Rattle.std.specs.Prelude.{flat_map, is_ok, OnOk}
use Rattle.liquid_files.specs.meaning.Files.{Request, also, listed_in, listing}
use Rattle.page_site.specs.meaning.Items.{item_of, items_at}
use Rattle.page_site.specs.meaning.Requested.{Follows}
use Rattle.page_site.proofs.RequestLemmas.{follows_one, follows_stop, follows_then}
use Rattle.liquid_page.specs.meaning.Names.{path_named}
use Rattle.liquid_page.proofs.NameLemmas.{items_joined}
use Rattle.liquid_page.proofs.plan.+add_all.Goals as goal

pub returns-in_err-add_items-in-Some-clause-requests : goal.returns-in_err-add_items-in-Some-clause-requests
returns-in_err-add_items-in-Some-clause-requests g t c =
    let f : List ℕ → Request = λ word. listing true (path_named word) in
    let word = c.in-Some.word.now.now in
    let rest = map f (map (λ word. word.now) c.in-Some.rest.now) in
    let all : map f (map (λ word. word.now) c.args.words.now) ≡ f word ∷ rest = search rules in
    let failed : is_ok c.from_residual.result ≡ false = search rules in
    let before = g.F.Folder.requests c.args.files.now in
    let made : g.F.Folder.requests c.add_items.new.files ≡ also before (f word ∷ []) = search rules in
    let after = g.F.Folder.requests c.add_items.new.files in
    subst (λ requests. Follows requests before after (is_ok c.from_residual.result)) (sym all)
    (follows_stop (f word ∷ []) rest before after true (is_ok c.from_residual.result) failed
    (follows_one (f word) before after true made))

pub returns-in_ok-add_items-in-Some-clause-requests : goal.returns-in_ok-add_items-in-Some-clause-requests
returns-in_ok-add_items-in-Some-clause-requests g t c =
    let f : List ℕ → Request = λ word. listing true (path_named word) in
    let word = c.in-Some.word.now.now in
    let rest = map f (map (λ word. word.now) c.in-Some.rest.now) in
    let all : map f (map (λ word. word.now) c.args.words.now) ≡ f word ∷ rest = search rules in
    let before = g.F.Folder.requests c.args.files.now in
    let made : g.F.Folder.requests c.add_items.new.files ≡ also before (f word ∷ []) = search rules in
    let between = g.F.Folder.requests c.add_items.new.files in
    let after = g.F.Folder.requests c.add_all.new.files in
    subst (λ requests. Follows requests before after (is_ok c.add_all.result)) (sym all)
    (follows_then (f word ∷ []) rest before between after (is_ok c.add_all.result)
    (follows_one (f word) before between true made) c.add_all.ensures.requests)

pub returns-in_ok-add_items-in-Some-clause-items : goal.returns-in_ok-add_items-in-Some-clause-items
returns-in_ok-add_items-in-Some-clause-items g t c = λ folders listed.
    let words : map (λ word. word.now) c.args.words.now ≡ c.in-Some.word.now.now
    ∷ map (λ word. word.now) c.in-Some.rest.now = search rules in
    let first : map item_of c.add_items.new.items.items ≡ map item_of c.args.items.now.items
    ++ items_at c.args.folder.now (path_named c.in-Some.word.now.now) (folders true (path_named c.in-Some.word.now.now)) =
    search rules in
    items_joined c.add_all.result (λ word. items_at c.args.folder.now (path_named word) (folders true (path_named word)))
    (map (λ word. word.now) c.args.words.now) c.in-Some.word.now.now (map (λ word. word.now) c.in-Some.rest.now)
    (map item_of c.args.items.now.items) (map item_of c.add_items.new.items.items) (map item_of c.add_all.new.items.items) words first
    (c.add_all.ensures.items folders (c.add_items.ensures.listed ∙ listed))
