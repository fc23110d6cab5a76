use Rattle.std.proofs.Common.{rules, ◌≡◌, ◌∙◌, ◌⊎◌, ℕ, List, Option, map, subst, sym, true, false, inl, inr}
use Rattle.std.specs.Prelude.{is_ok, nat_eq}
use Rattle.liquid_files.specs.meaning.Files.{known_in, reading}
use Rattle.liquid_parser.specs.meaning.Plugins.{language_of}
use Rattle.liquid_template.specs.meaning.Runs.{setting}
use Rattle.liquid_page.specs.meaning.Answered.{Answered}
use Rattle.liquid_partials.specs.meaning.Sources.{texts_in}
use Rattle.page_site.specs.meaning.Items.{item_of}
use Rattle.page_site.specs.meaning.Requested.{Follows}
use Rattle.page_site.proofs.RequestLemmas.{follows_stop, follows_then}
use Rattle.liquid_page.specs.meaning.Command.{IsGiven, first_requests, page_items}
use Rattle.liquid_page.specs.meaning.Requests.{words_of}
use Rattle.liquid_page.specs.steps.Given.{site_of}
use Rattle.liquid_page.proofs.PageLemmas.{pages_made, partials_found}
use Rattle.liquid_page.proofs.run.run_page.Goals as goal

pub returns-in-Ok-clause-pages : goal.returns-in-Ok-clause-pages
returns-in-Ok-clause-pages g c = λ all folders known listed.
    let words = words_of c.args.request.now in
    let read = c.gather.ensures.given all folders known listed in
    let given : IsGiven all folders words (site_of c.in-Ok.given) = search rules in
    let answers = Answered g.R.Rewrite.rewritten
    (setting g.V.Fresh.fresh g.F.Filter.Filter.means g.T.Node.Renderable.means g.B.Node.Renderable.means)
    (language_of g.F.ParseFilter.makes g.T.ParseTag.gives g.B.ParseBlock.block c.args.language.value) c.args.request.now.options in
    pages_made answers all folders words (site_of c.in-Ok.given) (texts_in c.in-Ok.given.site.partials.value)
    (g.D.Folder.known c.gather.new.files) (g.D.Folder.known c.make_pages.new.files) (g.W.Write.contents c.args.out.now)
    (g.W.Write.contents c.make_pages.new.out) c.make_pages.result.status (c.gather.ensures.same ∙ known) given
    (partials_found c.in-Ok.given.site.partials.value) c.make_pages.ensures.ends

pub returns-in-Ok-clause-requests : goal.returns-in-Ok-clause-requests
returns-in-Ok-clause-requests g c = λ folders listed.
    let words = words_of c.args.request.now in
    let first = first_requests folders words in
    let done : is_ok c.gather.result ≡ true = search rules in
    let read = c.gather.ensures.items folders listed in
    let items : map item_of c.in-Ok.given.items.items ≡ page_items folders words = search rules in
    let start = g.D.Folder.requests c.args.files.now in
    let one = g.D.Folder.requests c.gather.new.files in
    let two = g.D.Folder.requests c.make_pages.new.files in
    follows_then first (map (λ item. reading item.source) (page_items folders words)) start one two (nat_eq c.make_pages.result.status 0)
    (subst (λ b. Follows first start one b) done (c.gather.ensures.requests folders listed))
    (subst (λ all. Follows (map (λ item. reading item.source) all) one two (nat_eq c.make_pages.result.status 0)) items
    c.make_pages.ensures.requests)

pub returns-in-Err-clause-requests : goal.returns-in-Err-clause-requests
returns-in-Err-clause-requests g c = λ folders listed.
    let words = words_of c.args.request.now in
    let failed : nat_eq c.refuse.result.status 0 ≡ false = search rules in
    let start = g.D.Folder.requests c.args.files.now in
    let end = g.D.Folder.requests c.refuse.new.files in
    let some : Follows (first_requests folders words) start end (is_ok c.gather.result) =
    subst (λ r. Follows (first_requests folders words) start r (is_ok c.gather.result)) (sym c.refuse.ensures.requests)
    (c.gather.ensures.requests folders listed) in
    follows_stop (first_requests folders words) (map (λ item. reading item.source) (page_items folders words)) start end
    (is_ok c.gather.result) (nat_eq c.refuse.result.status 0) failed some
