use Rattle.std.proofs.Common.{◌≡◌, ◌≤◌, ◌-◌}
use Rattle.liquid_grammar.specs.steps.Steps.{white_start}
use Rattle.liquid_grammar.proofs.raw.white_start.Given as goal

abbrev pub invariant-white : goal.invariant-white
invariant-white l = record {
  same : white_start l.bytes l.from (l.end - l.from) ≡ white_start l.bytes l.from (l.start - l.from);
  low : l.from ≤ l.start;
  high : l.start ≤ l.end;
}

abbrev pub decreases-white : goal.decreases-white
decreases-white l = l.start
