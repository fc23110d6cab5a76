-- What filters that replace or remove parts of a string return.
use Rattle.std.specs.Prelude.{List, [], ◌∷◌, Result, Ok, Err}
use Rattle.liquid_error.specs.meaning.Refusal.{Refusal}
use Rattle.liquid_value.specs.meaning.Render.{render}
use Rattle.liquid_value.specs.meaning.Tree.{Tree}
use Rattle.liquid_strings.specs.meaning.Replace.{replaced, replaced_first, replaced_last}
use Rattle.liquid_filters.specs.meaning.value.Errors.{unexpected_arguments}
use Rattle.liquid_filters.specs.meaning.string.Written.{written}

-- the text with the second argument, or nothing, in each place of the first
abbrev pub replace : Tree → List Tree → Result Tree Refusal
replace input (search ∷ []) = Ok (written (replaced (render search) [] (render input)))
replace input (search ∷ by ∷ []) = Ok (written (replaced (render search) (render by) (render input)))
replace input other = Err unexpected_arguments

-- the text with the second argument, or nothing, in the first place of the first
abbrev pub replace_first : Tree → List Tree → Result Tree Refusal
replace_first input (search ∷ []) = Ok (written (replaced_first (render search) [] (render input)))
replace_first input (search ∷ by ∷ []) = Ok (written (replaced_first (render search) (render by) (render input)))
replace_first input other = Err unexpected_arguments

-- the text with the second argument in the last place of the first
abbrev pub replace_last : Tree → List Tree → Result Tree Refusal
replace_last input (search ∷ by ∷ []) = Ok (written (replaced_last (render search) (render by) (render input)))
replace_last input other = Err unexpected_arguments

-- the text without the places of the argument
abbrev pub remove : Tree → List Tree → Result Tree Refusal
remove input (search ∷ []) = Ok (written (replaced (render search) [] (render input)))
remove input other = Err unexpected_arguments

-- the text without the first place of the argument
abbrev pub remove_first : Tree → List Tree → Result Tree Refusal
remove_first input (search ∷ []) = Ok (written (replaced_first (render search) [] (render input)))
remove_first input other = Err unexpected_arguments

-- the text without the last place of the argument
abbrev pub remove_last : Tree → List Tree → Result Tree Refusal
remove_last input (search ∷ []) = Ok (written (replaced_last (render search) [] (render input)))
remove_last input other = Err unexpected_arguments
