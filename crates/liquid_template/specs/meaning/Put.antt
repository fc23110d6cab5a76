-- What one put takes and counts.
use Rattle.std.specs.Prelude.{ℕ, List, [], take, Result, Ok, Err}
use Rattle.liquid_template.specs.declared.sink.SinkFault.{SinkFault}
use Rattle.liquid_template.specs.declared.sink.SinkFault.TheVariants.{Failed, Memory}

-- the bytes that a put takes of its piece: the first ones, or none if it fails
abbrev pub taken_part : Result ℕ SinkFault → List ℕ → List ℕ
taken_part (Ok count) piece = take count piece
taken_part (Err fault) piece = []

-- what a put adds to the count of failures
abbrev pub failure_count : Result ℕ SinkFault → ℕ
failure_count (Ok count) = 0
failure_count (Err Failed) = 1
failure_count (Err Memory) = 0
