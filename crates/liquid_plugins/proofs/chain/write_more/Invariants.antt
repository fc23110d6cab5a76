use Rattle.std.proofs.Common.{◌≡◌, ℕ, List, ◌++◌, drop, map, codes}
use Rattle.std.specs.Fmt.{HasWritten, IsPlainFormatter}
use Rattle.std.specs.List.{flat_map}
use Rattle.liquid_plugins.proofs.chain.write_more.Given as goal

abbrev pub invariant-loop-filter : goal.invariant-loop-filter
invariant-loop-filter g l =
    (done : List ℕ) × (flat_map (λ x. codes " | " ++ g.X.Filter.means.label x) (map g.X.Meant.shape l.filters) ≡ done
    ++ flat_map (λ x. codes " | " ++ g.X.Filter.means.label x) (map g.X.Meant.shape (drop l.filter-index l.filters)))
    × (IsPlainFormatter l.initial.f → HasWritten g.W.Write.write_str_gives l.initial.f done l.f)
