use Rattle.std.proofs.lemmas.Result.{err_from_is_err_and}
use Rattle.liquid_error.specs.meaning.Told.{told}
use Rattle.liquid_parser.specs.meaning.Plugins.{registry_of}
use Rattle.jekyll_tags.proofs.PluginLemmas.{inclusion_read, name_refused, pairs_refused}
use Rattle.jekyll_tags.proofs.plugin.JekyllTagsParseTag.parse.Goals as goal

pub returns-in_err-name : goal.returns-in_err-name
returns-in_err-name g c ts at =
    let filters = registry_of g.F.ParseFilter.makes c.args.filters.now in
    let p = err_from_is_err_and c.from_residual.result c.from_residual.ensures.1 in
    rw (p.1, p.2) (name_refused c.args.self.now filters ts (told c.in_err-name.field-0.0) (c.in_err-name.ensures ts at))

pub returns-in_err-pairs : goal.returns-in_err-pairs
returns-in_err-pairs g c ts at =
    let filters = registry_of g.F.ParseFilter.makes c.args.filters.now in
    let one = c.in_ok-name.ensures ts at in
    let p = err_from_is_err_and c.from_residual-in_err-pairs.result c.from_residual-in_err-pairs.ensures.1 in
    rw (p.1, p.2) (pairs_refused c.args.self.now filters ts _ one.0 one.1 (told c.in_err-pairs.field-0.0)
    (c.in_err-pairs.ensures one.0 one.2))

pub returns : goal.returns
returns g c ts at =
    let filters = registry_of g.F.ParseFilter.makes c.args.filters.now in
    let one = c.in_ok-name.ensures ts at in
    inclusion_read c.args.self.now filters ts _ one.0 one.1 _ (c.in_ok-pairs.ensures one.0 one.2)
