-- What the filters on any value return.
use Rattle.std.specs.Prelude.{ℕ, pos, List, [], ◌∷◌, ◌&&◌, Bool, true, false, not, cond, codes, Option, None, Some, Result, Ok, Err}
use Rattle.liquid_error.specs.meaning.Refusal.{Refusal}
use Rattle.liquid_scalar.specs.meaning.Scalar.{integer, boolean, text}
use Rattle.liquid_value.specs.declared.state.State.TheVariants.{DefaultValue}
use Rattle.liquid_value.specs.meaning.Kind.{query_state}
use Rattle.liquid_value.specs.meaning.Tree.{Tree, scalar}
use Rattle.liquid_filters.specs.meaning.value.Errors.{unexpected_arguments}
use Rattle.liquid_filters.specs.meaning.value.Parts.{size_of, truthy}
use Rattle.liquid_filters.specs.meaning.Calls.{keyword_of}
use Rattle.liquid_filters.specs.meaning.Given.{Given}

-- whether the value is `false`
abbrev pub is_false : Tree → Bool
is_false (scalar (boolean b)) = not b
is_false other = false

-- whether `false` is kept
abbrev pub allows_false : Option Tree → Bool
allows_false None = false
allows_false (Some t) = truthy t

-- whether the input is nil, false or empty, except for a `false` that is kept
abbrev pub is_missing : Tree → Option Tree → Bool
is_missing input allow = query_state input DefaultValue && not (is_false input && allows_false allow)

-- the argument, or the empty string without one, if the input is missing; otherwise the input
abbrev pub chosen : Tree → List Tree → Bool → Result Tree Refusal
chosen input [] missing = Ok (cond missing (scalar (text [])) input)
chosen input (t ∷ []) missing = Ok (cond missing t input)
chosen input other missing = Err unexpected_arguments

abbrev pub defaulted : Tree → Given → Result Tree Refusal
defaulted input g = chosen input g.positional (is_missing input (keyword_of (codes "allow_false") g.keyword))

-- the number of entries or characters, as a value
abbrev pub size : Tree → Tree
size input = scalar (integer (pos (size_of input)))
