-- A request to a gate with a watch.
use Rattle.std.specs.Prelude.{◌≡◌, ◌↔◌, ℕ, ◌+◌, ◌^◌, ◌<◌, Bool, true}
use Rattle.liquid_template.specs.meaning.Output.{Passed}

-- the watch was asked once, and gave this answer. The request passes if the watch is open, and if 64 bits have the count
abbrev pub PassesWatch : {W : Type 0} → (W → W → Bool → Type 0) → W → W → Passed → ℕ → Bool → Type 0
PassesWatch answers before after p n passes =
    (answer : Bool) × answers before after answer × ((passes ≡ true) ↔ ((answer ≡ true) × (p.count + n < 2 ^ 64)))
