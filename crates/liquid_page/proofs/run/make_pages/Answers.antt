use Rattle.std.proofs.Common.{rules, ◌≡◌, map, subst, inl, false}
use Rattle.liquid_parser.specs.meaning.Plugins.{language_of}
use Rattle.liquid_partials.specs.meaning.Sources.{Texts, texts_in}
use Rattle.liquid_template.specs.meaning.Runs.{setting}
use Rattle.liquid_page.specs.meaning.Answered.{Answered}
use Rattle.liquid_page.specs.meaning.Command.{Ends}
use Rattle.liquid_page.specs.meaning.Names.{text_given}
use Rattle.liquid_page.specs.steps.Given.{site_of}
use Rattle.std.specs.Prelude.{nat_eq}
use Rattle.liquid_files.specs.meaning.Files.{reading}
use Rattle.page_site.specs.meaning.Items.{item_of}
use Rattle.page_site.proofs.RequestLemmas.{follows_nothing}
use Rattle.liquid_page.proofs.run.make_pages.Goals as goal

pub returns-in-Err-clause-requests : goal.returns-in-Err-clause-requests
returns-in-Err-clause-requests g c =
    let failed : nat_eq c.refuse.result.status 0 ≡ false = search rules in
    follows_nothing (map (λ item. reading item.source) (map item_of c.args.given.now.items.items)) (g.D.Folder.requests c.args.files.now)
    (g.D.Folder.requests c.refuse.new.files) (nat_eq c.refuse.result.status 0) failed c.refuse.ensures.requests

pub returns-clause-ends : goal.returns-clause-ends
returns-clause-ends g c =
    let shared : texts_in c.in-Ok.partials.value ≡ texts_in c.args.given.now.site.partials.value = search rules in
    inl (subst (λ (texts : Texts). Ends (Answered g.R.Rewrite.rewritten
    (setting g.V.Fresh.fresh g.F.Filter.Filter.means g.T.Node.Renderable.means g.B.Node.Renderable.means)
    (language_of g.F.ParseFilter.makes g.T.ParseTag.gives g.B.ParseBlock.block c.args.language.value) c.args.request.now.options texts)
    (site_of c.args.given.now) (g.D.Folder.known c.args.files.now) (g.D.Folder.known c.finish.new.files)
    (g.W.Write.contents c.args.out.now) (g.W.Write.contents c.finish.new.out) (text_given c.args.request.now.output)
    c.finish.result.status) shared c.finish.ensures.ends)
