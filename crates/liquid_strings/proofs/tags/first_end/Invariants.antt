use Rattle.std.proofs.Common.{◌≡◌, drop, map}
use Rattle.liquid_strings.specs.meaning.Tags.{first_part}
use Rattle.liquid_strings.specs.steps.Kinds.{kind_of}
use Rattle.liquid_strings.proofs.tags.first_end.Given as goal

abbrev pub invariant-loop-kind : goal.invariant-loop-kind
invariant-loop-kind l = first_part (map kind_of l.kinds) (drop l.at l.text) ≡ first_part (map kind_of (drop l.kind-index l.kinds))
    (drop l.at l.text)
