-- What a filter reads of an item: the item itself, or a property of it.
use Rattle.std.specs.Prelude.{ℕ, List, [], ◌∷◌, Option, Some, None, Result, Ok, Err}
use Rattle.liquid_error.specs.meaning.Refusal.{Refusal, ok_then}
use Rattle.liquid_value.specs.meaning.Render.{render}
use Rattle.liquid_value.specs.meaning.Tree.{Tree, nil}
use Rattle.liquid_filters.specs.meaning.value.Errors.{unexpected_arguments}
use Rattle.liquid_filters.specs.meaning.value.Items.{flat}
use Rattle.liquid_filters.specs.meaning.value.Parts.{property}

-- an item, or its property of that name
abbrev pub key_of : Option (List ℕ) → Tree → Result Tree Refusal
key_of None item = Ok item
key_of (Some name) item = property name item

-- each item after its key, or the first error
abbrev pub keyed : Option (List ℕ) → List Tree → Result (List (Tree × Tree)) Refusal
keyed name [] = Ok []
keyed name (t ∷ ts) = ok_then (key_of name t) (λ key. ok_then (keyed name ts) (λ entries. Ok ((key, t) ∷ entries)))

-- the property that an argument names, by its text; nil names none
abbrev pub name_of : Tree → Option (List ℕ)
name_of nil = None
name_of t = Some (render t)

-- the property that the argument names, if there is one
abbrev pub optional_name : List Tree → Result (Option (List ℕ)) Refusal
optional_name [] = Ok None
optional_name (t ∷ []) = Ok (name_of t)
optional_name other = Err unexpected_arguments

-- each item of the input after itself, or after the property that the argument names
abbrev pub entries : Tree → List Tree → Result (List (Tree × Tree)) Refusal
entries input arguments = ok_then (optional_name arguments) (λ name. keyed name (flat input))
