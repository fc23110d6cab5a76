use Rattle.std.proofs.Common.{ap, ◌∙◌}
use Rattle.std.specs.FinMap.{get, get-empty}
use Rattle.std.proofs.lemmas.List.{nil_from_length}
use Rattle.liquid_runtime.proofs.ObjectNames.{names_of-empty}
use Rattle.std.proofs.lemmas.Bool.{not-false}
use Rattle.liquid_scopes.proofs.link.has_names.Goals as goal

pub returns : goal.returns
returns c =
    λ none q. ap (λ m. get m q) (names_of-empty c.args.names.now
    (nil_from_length c.args.names.now.entries (c.is_empty.ensures.0 (not-false c.is_empty.result none)))) ∙ get-empty _ q
