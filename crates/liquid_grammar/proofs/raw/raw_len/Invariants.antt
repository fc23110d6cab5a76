use Rattle.std.proofs.Common.{◌≤◌, ◌-◌, length}
use Rattle.liquid_grammar.proofs.RawLemmas.{Passed}
use Rattle.liquid_grammar.proofs.raw.raw_len.Given as goal

abbrev pub invariant-braces : goal.invariant-braces
invariant-braces l = record {
  passed : Passed l.bytes l.from l.from;
  within : l.from ≤ length l.bytes;
}

abbrev pub decreases-braces : goal.decreases-braces
decreases-braces l = length l.bytes - l.from
