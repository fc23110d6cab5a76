-- What a request for a partial returns.
use Rattle.std.specs.Prelude.{ℕ, List, Option, None, Some, Result, Err}
use Rattle.liquid_error.specs.meaning.Refusal.{Refusal}
use Rattle.liquid_plugins.specs.meaning.Nodes.{Nodes}
use Rattle.liquid_template.specs.meaning.Partials.{no_store}

abbrev pub store_answer : {F T B : Type 0} → Option (List ℕ → Result (Nodes F T B) Refusal) → List ℕ → Result (Nodes F T B) Refusal
store_answer None name = Err (no_store name)
store_answer (Some finds) name = finds name
