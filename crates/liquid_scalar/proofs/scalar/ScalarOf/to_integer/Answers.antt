use Rattle.std.proofs.Common.{rules}
use Rattle.liquid_scalar.proofs.WholeNumber.{parse_reads_whole_number}
use Rattle.liquid_scalar.proofs.scalar.ScalarOf.to_integer.Goals as goal

pub returns-in-Str : goal.returns-in-Str
returns-in-Str g c = let read = parse_reads_whole_number c.as_str.result.now c.parse.result c.parse.ensures.value.0 in search (rules, read)
