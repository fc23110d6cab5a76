-- What filters that join two strings return.
use Rattle.std.specs.Prelude.{List, [], ◌∷◌, ◌++◌, Result, Ok, Err}
use Rattle.liquid_error.specs.meaning.Refusal.{Refusal}
use Rattle.liquid_value.specs.meaning.Render.{render}
use Rattle.liquid_value.specs.meaning.Tree.{Tree}
use Rattle.liquid_filters.specs.meaning.value.Errors.{unexpected_arguments}
use Rattle.liquid_filters.specs.meaning.string.Written.{written}

-- the texts of two values, one after another
abbrev pub joined : Tree → Tree → Tree
joined front back = written (render front ++ render back)

-- the text, followed by that of the argument
abbrev pub appended : Tree → List Tree → Result Tree Refusal
appended input (back ∷ []) = Ok (joined input back)
appended input other = Err unexpected_arguments

-- the text of the argument, followed by the text
abbrev pub prepended : Tree → List Tree → Result Tree Refusal
prepended input (front ∷ []) = Ok (joined front input)
prepended input other = Err unexpected_arguments
