use Rattle.std.proofs.Common.{◌≡◌, ◌≤◌, map, take}
use Rattle.liquid_strings.specs.meaning.Split.{without_empty_end}
use Rattle.liquid_strings.proofs.parts.drop_empty_end.Given as goal

abbrev pub invariant-loop-at : goal.invariant-loop-at
invariant-loop-at l = record {
  order : l.kept ≤ l.at;
  same : take l.kept (map (λ p. p.now) l.piece-items) ≡ without_empty_end (take l.at (map (λ p. p.now) l.piece-items));
}
