-- The globals of a text of JSON.
use Rattle.std.specs.Prelude.{ℕ, List, [], ◌∷◌, Bool, true, false, Option, None, Some, Result, Ok, Err}
use Rattle.std.specs.FinMap.{from_entries}
use Rattle.liquid_error.specs.meaning.Refusal.{Refusal}
use Rattle.liquid_value.specs.meaning.Tree.{Tree, Members, no_members, member}
use Rattle.liquid_runtime.specs.meaning.Maps.{Names}
use Rattle.liquid_json.specs.meaning.decimals.Given.{object_read as object_with_decimals}
use Rattle.liquid_json.specs.meaning.Given.{object_read}
use Rattle.liquid_pages.specs.meaning.Faults.{Fault, bad_json, no_globals}

abbrev pub entries_of : Members → List (List ℕ × Tree)
entries_of no_members = []
entries_of (member name t ms) = (name, t) ∷ entries_of ms

-- the members of an object as names with their values
abbrev pub global_names : Members → Names
global_names ms = from_entries (entries_of ms)

-- what reading an object from JSON gives: its names, or the fault of a text that is not JSON or not an object of values
abbrev pub names_given : Option (Result Members Refusal) → Result Names Fault
names_given None = Err bad_json
names_given (Some (Err refusal)) = Err (no_globals refusal)
names_given (Some (Ok members)) = Ok (global_names members)

-- the object that a text of JSON gives, with decimals or without
abbrev pub json_object : Bool → List ℕ → Option (Result Members Refusal)
json_object true json = object_with_decimals json
json_object false json = object_read json

abbrev pub globals_read : Bool → List ℕ → Result Names Fault
globals_read decimals json = names_given (json_object decimals json)
