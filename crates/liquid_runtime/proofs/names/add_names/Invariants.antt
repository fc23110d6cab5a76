use Rattle.std.proofs.Common.{◌≡◌, ℕ, List}
use Rattle.std.specs.Prelude.{is_some, ◌||◌}
use Rattle.std.specs.BTreeSet.{contains_text}
use Rattle.std.specs.FinMap.{get}
use Rattle.liquid_runtime.specs.meaning.Maps.{names_of}
use Rattle.liquid_runtime.proofs.Objects.{has_name}
use Rattle.liquid_runtime.proofs.names.add_names.Given as goal

abbrev pub invariant-loop-name : goal.invariant-loop-name
invariant-loop-name l =
    (q : List ℕ) → (has_name q l.name-iterator || contains_text l.names q) ≡ (is_some (get (names_of l.object) q)
    || contains_text l.fn.below q)
