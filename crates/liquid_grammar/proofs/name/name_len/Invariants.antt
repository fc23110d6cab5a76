use Rattle.std.proofs.Common.{◌≡◌, ◌+◌, drop}
use Rattle.liquid_grammar.specs.steps.Steps.{name_len}
use Rattle.liquid_grammar.proofs.name.name_len.Given as goal

abbrev pub invariant-bytes : goal.invariant-bytes
invariant-bytes l = l.at + name_len (drop l.at l.bytes) ≡ name_len l.bytes
