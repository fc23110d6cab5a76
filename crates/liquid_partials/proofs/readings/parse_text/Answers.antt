use Rattle.std.proofs.Common.{Ok, sym, ap, ◌∙◌}
use Rattle.std.proofs.lemmas.Result.{err_from_is_err_and}
use Rattle.liquid_error.specs.meaning.Told.{told}
use Rattle.liquid_plugins.specs.meaning.NodesOf.{nodes_of}
use Rattle.liquid_parser.specs.meaning.Plugins.{language_of}
use Rattle.liquid_partials.specs.meaning.Compiled.{as_tree}
use Rattle.liquid_partials.specs.meaning.Kept.{reading}
use Rattle.liquid_partials.proofs.StoreLemmas.{reading_reads}
use Rattle.liquid_parser.proofs.TokenLemmas.{if_some_weaker}
use Rattle.liquid_partials.proofs.readings.parse_text.Goals as goal

pub returns : goal.returns
returns g c =
    let l = (language_of g.F.ParseFilter.makes g.T.ParseTag.gives g.B.ParseBlock.block c.args.language.now) in
    ap as_tree (c.in_ok-parse.ensures.only (reading l c.args.text.now) (reading_reads l c.args.text.now))
    ∙ ap (λ nodes. Ok (nodes_of g.F.Filter.Meant.shape g.T.Node.Meant.shape g.B.Node.Meant.shape nodes)) (sym c.new.ensures)

pub returns-in_err-parse : goal.returns-in_err-parse
returns-in_err-parse g c =
    let l = (language_of g.F.ParseFilter.makes g.T.ParseTag.gives g.B.ParseBlock.block c.args.language.now) in
    let p = err_from_is_err_and c.from_residual.result c.from_residual.ensures.1 in
    rw (p.1, p.2) (if_some_weaker (told c.in_err-parse.field-0.0) (λ r e. ap as_tree e)
    (c.in_err-parse.ensures.only (reading l c.args.text.now) (reading_reads l c.args.text.now)))
