-- Where rendered pieces go: a sink, and what a gate before it was asked.
use Rattle.std.specs.Prelude.{◌≡◌, ℕ, ◌+◌, ◌<◌, Bool, true, false, ◌⊎◌, Option, None, Some, IfSome, option_map}
use Rattle.liquid_template.specs.meaning.Sunk.{Sunk}

-- how many passed, how many requests were refused, and how many may pass in all, if that is known
pub record Passed : Type 0 where
  pub count : ℕ
  pub refusals : ℕ
  pub limit : Option ℕ

abbrev pub passed : ℕ → ℕ → Option ℕ → Passed
passed count refusals limit = record { count = count; refusals = refusals; limit = limit }

-- a gate is asked for turns, and for bytes
pub record Gated : Type 0 where
  pub turns : Passed
  pub bytes : Passed

abbrev pub gated_by : Passed → Passed → Gated
gated_by turns bytes = record { turns = turns; bytes = bytes }

-- a request for n passes, or is refused
abbrev pub asked : Bool → ℕ → Passed → Passed
asked true n p = record p { count = p.count + n }
asked false n p = record p { refusals = p.refusals + 1 }

-- n more are past the limit, if it is known
abbrev pub IsPast : Passed → ℕ → Type 0
IsPast p n = IfSome p.limit (λ limit. limit < p.count + n)

-- a sink, and what passed its gate, if turns and bytes are counted
pub record Output : Type 0 where
  pub sunk : Sunk
  pub turns : Option Passed
  pub bytes : Option Passed

-- a sink without a gate, and one with a gate
abbrev pub ungated : Sunk → Output
ungated sunk = record { sunk = sunk; turns = None; bytes = None }

abbrev pub gated : Sunk → Gated → Output
gated sunk gate = record { sunk = sunk; turns = Some gate.turns; bytes = Some gate.bytes }

-- n passed; without a gate nothing is counted
abbrev pub Passes : Option Passed → ℕ → Option Passed → Type 0
Passes before n after = after ≡ option_map (asked true n) before

-- n passed, and then a request for that many more, which are past the limit, was refused; that needs a gate
abbrev pub Refuses : Option Passed → ℕ → ℕ → Option Passed → Type 0
Refuses None n more after = ⊥
Refuses (Some p) n more after = (after ≡ Some (asked false 0 (asked true n p))) × IsPast (asked true n p) more

-- n passed, and maybe another request was refused
abbrev pub PassesUpTo : Option Passed → ℕ → Option Passed → Type 0
PassesUpTo before n after = Passes before n after ⊎ ((more : ℕ) × Refuses before n more after)
