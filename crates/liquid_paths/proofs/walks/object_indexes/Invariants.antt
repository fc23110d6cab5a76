use Rattle.std.proofs.Common.{◌≡◌, ◌++◌, codes, string_bytes, cond}
use Rattle.std.specs.List.{flat_map}
use Rattle.liquid_value.specs.meaning.View.{members_view}
use Rattle.liquid_value.specs.meaning.Names.{names}
use Rattle.liquid_paths.specs.meaning.Walk.{listed}
use Rattle.liquid_paths.proofs.walks.object_indexes.Given as goal

abbrev pub invariant-loop-name : goal.invariant-loop-name
invariant-loop-name l =
    listed (names (members_view l.members.entries)) ≡ string_bytes l.text
    ++ cond l.is_first (listed (names (members_view l.name-iterator)))
    (flat_map (λ name. codes ", " ++ name) (names (members_view l.name-iterator)))
