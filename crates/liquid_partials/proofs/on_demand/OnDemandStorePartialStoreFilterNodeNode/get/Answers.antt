use Rattle.std.proofs.Common.{is_some, None, Err, sym, ap, ◌∙◌}
use Rattle.liquid_error.specs.meaning.Told.{told}
use Rattle.liquid_parser.specs.meaning.Plugins.{language_of}
use Rattle.liquid_template.specs.meaning.Partials.{unknown_partial}
use Rattle.liquid_partials.specs.meaning.Kept.{readings}
use Rattle.liquid_partials.proofs.StoreLemmas.{contains-readings, keys-readings, found_none, partial_found}
use Rattle.liquid_parser.proofs.TokenLemmas.{if_some_weaker}
use Rattle.liquid_partials.proofs.on_demand.OnDemandStorePartialStoreFilterNodeNode.get.Goals as goal

pub returns-in-None-clause-gives : goal.returns-in-None-clause-gives
returns-in-None-clause-gives g c =
    let l = (language_of g.F.ParseFilter.makes g.T.ParseTag.gives g.B.ParseBlock.block c.args.self.now.texts.parser.language.value) in
    let texts = g.S.PartialSource.texts c.args.self.now.texts.source in
    let none = found_none (readings l texts) c.args.name.now (rw c.in-None.is at c.in_ok-template.ensures.gives) in
    let unknown = rw c.in_ok-template.ensures.source at c.unknown.ensures in
    if_some_weaker (told c.unknown.result)
    (λ r e. partial_found (readings l texts) c.args.name.now None none
    ∙ ap (λ names. Err (unknown_partial c.args.name.now names)) (keys-readings l texts) ∙ ap (λ x. Err x) (sym e))
    unknown

pub returns-in-None-clause-lost : goal.returns-in-None-clause-lost
returns-in-None-clause-lost g c =
    let l = (language_of g.F.ParseFilter.makes g.T.ParseTag.gives g.B.ParseBlock.block c.args.self.now.texts.parser.language.value) in
    let texts = g.S.PartialSource.texts c.args.self.now.texts.source in
    let none = ap is_some (found_none (readings l texts) c.args.name.now (rw c.in-None.is at c.in_ok-template.ensures.gives)) in
    let same = contains-readings l texts c.args.name.now in
    λ there. cc (none, same, there)
