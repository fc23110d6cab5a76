use Rattle.std.proofs.lemmas.Result.{err_from_is_err_and}
use Rattle.liquid_parser.specs.meaning.Plugins.{registry_of}
use Rattle.liquid_partials.proofs.PageLemmas.{no_page}
use Rattle.liquid_tags.proofs.PageLemmas.{page_in}
use Rattle.liquid_tags.proofs.pages.render_page.Goals as goal

pub returns-in_err-language : goal.returns-in_err-language
returns-in_err-language g c =
    let p = err_from_is_err_and c.from_residual.result c.from_residual.ensures.1 in
    rw p.1 (no_page _ _ _ c.args.text.now _ _ _ _ p.2)

pub returns : goal.returns
returns g c =
    page_in g.F.Filter.Filter.means (registry_of g.F.ParseFilter.makes c.args.filters) _ c.args.text.now _ _ _ _ _
    c.in_ok-language.ensures.means c.render_page_in.ensures
