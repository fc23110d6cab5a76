-- What the filter that splits a string returns.
use Rattle.std.specs.Prelude.{ℕ, List, [], ◌∷◌, map, Result, Ok, Err}
use Rattle.liquid_error.specs.meaning.Refusal.{Refusal}
use Rattle.liquid_value.specs.meaning.Render.{render}
use Rattle.liquid_value.specs.meaning.Tree.{Tree, array}
use Rattle.liquid_value.specs.meaning.View.{items_of}
use Rattle.liquid_strings.specs.meaning.Split as strings
use Rattle.liquid_filters.specs.meaning.value.Errors.{unexpected_arguments}
use Rattle.liquid_filters.specs.meaning.string.Written.{written}

-- texts as an array
abbrev pub texts : List (List ℕ) → Tree
texts parts = array (items_of (map written parts))

-- the parts of the text by the argument
abbrev pub split : Tree → List Tree → Result Tree Refusal
split input (separator ∷ []) = Ok (texts (strings.split (render separator) (render input)))
split input other = Err unexpected_arguments
