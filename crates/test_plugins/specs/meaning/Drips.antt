-- What a sink that drips returns for a put.
use Rattle.std.specs.Prelude.{◌≡◌, ℕ, ◌+◌, ◌<◌, Result, Ok, Err}
use Rattle.test_plugins.specs.declared.dripping.Dripping.{Dripping}
use Rattle.liquid_template.specs.declared.sink.SinkFault.{SinkFault}
use Rattle.liquid_template.specs.declared.sink.SinkFault.TheVariants.{Failed, Memory}

-- the number of bytes that it takes until it fails
abbrev pub puts_left : Dripping → ℕ
puts_left sink = sink.puts_left

-- a put takes one byte while puts are left, and fails after that; if memory runs out, it takes none
abbrev pub Drips : ℕ → ℕ → Result ℕ SinkFault → Type 0
Drips before after (Ok count) = (count ≡ 1) × (before ≡ after + 1)
Drips before after (Err Failed) = (before ≡ 0) × (after ≡ 0)
Drips before after (Err Memory) = (0 < before) × (after ≡ before)
