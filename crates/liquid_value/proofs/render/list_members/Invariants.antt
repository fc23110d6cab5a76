use Rattle.std.proofs.Common.{◌≡◌, ℕ, List, ◌++◌}
use Rattle.std.specs.Fmt.{HasWritten, IsPlainFormatter}
use Rattle.liquid_value.specs.meaning.Render.{listed_members}
use Rattle.liquid_value.specs.meaning.View.{members_view}
use Rattle.liquid_value.proofs.render.list_members.Given as goal

abbrev pub invariant-loop-key : goal.invariant-loop-key
invariant-loop-key g l =
    (done : List ℕ) × (listed_members (members_view l.members.entries) ≡ done ++ listed_members (members_view l.key-iterator))
    × (IsPlainFormatter l.initial.f → HasWritten g.W.Write.write_str_gives l.initial.f done l.f)
