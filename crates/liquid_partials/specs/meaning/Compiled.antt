-- What a store finds that was compiled from a source and a language.
use Rattle.std.specs.Prelude.{◌≡◌, ℕ, Bool, true, false, List, Option, None, Some, Result, Ok, Err}
use Rattle.std.specs.FinMap.{get}
use Rattle.liquid_error.specs.meaning.Refusal.{Refusal}
use Rattle.liquid_plugins.specs.meaning.Nodes.{NodeShape, Nodes, nodes_from}
use Rattle.liquid_parser.specs.meaning.Lang.{Lang}
use Rattle.liquid_parser.specs.meaning.Reading.{Reads}
use Rattle.liquid_template.specs.meaning.Partials.{Found}
use Rattle.liquid_partials.specs.meaning.Sources.{Texts}

-- the result of parsing with its nodes as a tree, or with its fault
abbrev pub as_tree : {F T B : Type 0} → Result (List (NodeShape F T B)) Refusal → Result (Nodes F T B) Refusal
as_tree (Ok nodes) = Ok (nodes_from nodes)
as_tree (Err refusal) = Err refusal

module _ {F T P B : Type 0} (l : Lang F T P B) where
  -- under a name with a text the store finds what the text is read as, and under any other name nothing
  abbrev pub FoundAs : Option (List ℕ) → Option (Result (Nodes F T B) Refusal) → Type 0
  FoundAs None found = found ≡ None
  FoundAs (Some text) found = (answer : Result (List (NodeShape F T B)) Refusal) × Reads l text answer × (found ≡ Some (as_tree answer))

  abbrev pub Compiled : Texts → Found F T B → Type 0
  Compiled texts finds = (name : List ℕ) → FoundAs (get texts name) (get finds name)

  -- a source and a language have exactly one such store
  abbrev pub OneStore : Type 0
  OneStore =
      (texts : Texts) → (finds : Found F T B) × Compiled texts finds
      × ((others : Found F T B) → Compiled texts others → others ≡ finds)

-- the number of texts that a request parses: one if the source has the name, otherwise none
abbrev pub once : Bool → ℕ
once true = 1
once false = 0
