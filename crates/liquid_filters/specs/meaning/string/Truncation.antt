-- What filters that cut a string or an array return.
use Rattle.std.specs.Prelude.{ℕ, ℤ, pos, List, [], ◌∷◌, codes, Result, Ok, Err}
use Rattle.liquid_error.specs.meaning.Refusal.{Refusal, ok_then}
use Rattle.liquid_value.specs.meaning.Render.{render}
use Rattle.liquid_value.specs.meaning.Tree.{Tree, nil, array, Items}
use Rattle.liquid_value.specs.meaning.View.{items_of}
use Rattle.liquid_strings.specs.meaning.Truncation as strings
use Rattle.liquid_strings.specs.meaning.Slices as slices
use Rattle.liquid_filters.specs.meaning.value.Errors.{unexpected_arguments}
use Rattle.liquid_filters.specs.meaning.value.Items.{own_items}
use Rattle.liquid_filters.specs.meaning.value.Numbers.{whole}
use Rattle.liquid_filters.specs.meaning.string.Written.{written}

-- the text cut to that many characters; nil stays nil
abbrev pub truncated : ℤ → List ℕ → Tree → Tree
truncated n ending nil = nil
truncated n ending input = written (strings.truncated n ending (render input))

-- the same for a value that must be an integer, unless the input is nil
abbrev pub truncated_to : Tree → List ℕ → Tree → Result Tree Refusal
truncated_to count ending nil = Ok nil
truncated_to count ending input = ok_then (whole count) (λ n. Ok (truncated n ending input))

-- the text cut to 50 characters or as many as the first argument says, with the second argument or dots at its end
abbrev pub truncate : Tree → List Tree → Result Tree Refusal
truncate input [] = Ok (truncated (pos 50) (codes "...") input)
truncate input (count ∷ []) = truncated_to count (codes "...") input
truncate input (count ∷ ending ∷ []) = truncated_to count (render ending) input
truncate input other = Err unexpected_arguments

-- the text cut to that many words; nil stays nil
abbrev pub words_truncated : ℤ → List ℕ → Tree → Tree
words_truncated n ending nil = nil
words_truncated n ending input = written (strings.truncated_words n ending (render input))

-- the same for a value that must be an integer, unless the input is nil
abbrev pub words_truncated_to : Tree → List ℕ → Tree → Result Tree Refusal
words_truncated_to count ending nil = Ok nil
words_truncated_to count ending input = ok_then (whole count) (λ n. Ok (words_truncated n ending input))

-- the text cut to 15 words or as many as the first argument says, with the second argument or dots at its end
abbrev pub truncatewords : Tree → List Tree → Result Tree Refusal
truncatewords input [] = Ok (words_truncated (pos 15) (codes "...") input)
truncatewords input (count ∷ []) = words_truncated_to count (codes "...") input
truncatewords input (count ∷ ending ∷ []) = words_truncated_to count (render ending) input
truncatewords input other = Err unexpected_arguments

-- the items of an array from a place on, that many of them
abbrev pub sliced_items : ℤ → ℤ → Items → Tree
sliced_items start length items = array (items_of (slices.sliced start length (own_items items)))

-- the same for an array, and for the characters of another value's text
abbrev pub sliced : ℤ → ℤ → Tree → Tree
sliced start length (array items) = sliced_items start length items
sliced start length input = written (slices.sliced_text start length (render input))

-- the length that a value gives; nil gives 1
abbrev pub slice_length : Tree → Result ℤ Refusal
slice_length nil = Ok (pos 1)
slice_length other = whole other

-- the part from the first argument on, as long as the second one says, or 1
abbrev pub slice : Tree → List Tree → Result Tree Refusal
slice input (start ∷ []) = ok_then (whole start) (λ s. Ok (sliced s (pos 1) input))
slice input (start ∷ length ∷ []) = ok_then (whole start) (λ s. ok_then (slice_length length) (λ n. Ok (sliced s n input)))
slice input other = Err unexpected_arguments
