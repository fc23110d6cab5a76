-- What Jekyll's filters on lists return.
use Rattle.std.specs.Prelude.{ℕ, ℤ, pos, ◌-◌, List, [], ◌∷◌, ◌++◌, codes, drop, length, take, Result, Ok, Err}
use Rattle.liquid_error.specs.meaning.Refusal.{Refusal, ok_then}
use Rattle.liquid_scalar.specs.meaning.Scalar.{text}
use Rattle.liquid_value.specs.meaning.Render.{render}
use Rattle.liquid_value.specs.meaning.Tree.{Tree, scalar, array}
use Rattle.liquid_filters.specs.meaning.list.Lists.{list_of}
use Rattle.liquid_strings.specs.meaning.Slices.{count_in}
use Rattle.liquid_filters.specs.meaning.value.Errors.{unexpected_arguments}
use Rattle.liquid_filters.specs.meaning.value.Items.{flat, own_items}
use Rattle.liquid_filters.specs.meaning.value.Numbers.{whole}
use Rattle.liquid_jekyll.specs.declared.value.lists.End.{End}
use Rattle.liquid_jekyll.specs.declared.value.lists.End.TheVariants.{First, Last}

-- the items without that many first or last ones
abbrev pub without : End → ℕ → List Tree → List Tree
without First n ts = drop n ts
without Last n ts = take (length ts - n) ts

-- an array without as many items as a number says, if it is one; any other input stays
abbrev pub cut_by : End → Result ℤ Refusal → Tree → Result Tree Refusal
cut_by end count (array ts) = ok_then count (λ n. Ok (list_of (without end (count_in n) (own_items ts))))
cut_by end count other = Ok other

-- the same without one item, or without as many as the argument says
abbrev pub cut : End → Tree → List Tree → Result Tree Refusal
cut end input [] = cut_by end (Ok (pos 1)) input
cut end input (n ∷ []) = cut_by end (whole n) input
cut end input other = Err unexpected_arguments

abbrev pub pop : Tree → List Tree → Result Tree Refusal
pop input arguments = cut Last input arguments

abbrev pub shift : Tree → List Tree → Result Tree Refusal
shift input arguments = cut First input arguments

-- an array with one more item at its end, and at its start; any other input stays
abbrev pub pushed : Tree → Tree → Tree
pushed t (array ts) = list_of (own_items ts ++ (t ∷ []))
pushed t other = other

abbrev pub unshifted : Tree → Tree → Tree
unshifted t (array ts) = list_of (t ∷ own_items ts)
unshifted t other = other

abbrev pub push : Tree → List Tree → Result Tree Refusal
push input (t ∷ []) = Ok (pushed t input)
push input other = Err unexpected_arguments

abbrev pub unshift : Tree → List Tree → Result Tree Refusal
unshift input (t ∷ []) = Ok (unshifted t input)
unshift input other = Err unexpected_arguments

-- texts with commas between them, and a word before the last one
abbrev pub series : List ℕ → List Tree → List ℕ
series by [] = []
series by (t ∷ []) = by ++ (codes " " ++ render t)
series by (t ∷ u ∷ ts) = render t ++ (codes ", " ++ series by (u ∷ ts))

-- the same, but with no comma between two, and no word for one
abbrev pub sentence : List ℕ → List Tree → List ℕ
sentence by [] = []
sentence by (t ∷ []) = render t
sentence by (t ∷ u ∷ []) = render t ++ (codes " " ++ series by (u ∷ []))
sentence by (t ∷ u ∷ v ∷ ts) = series by (t ∷ u ∷ v ∷ ts)

abbrev pub sentence_of : List ℕ → Tree → Tree
sentence_of by input = scalar (text (sentence by (flat input)))

abbrev pub sentenced : Tree → List Tree → Result Tree Refusal
sentenced input [] = Ok (sentence_of (codes "and") input)
sentenced input (t ∷ []) = Ok (sentence_of (render t) input)
sentenced input other = Err unexpected_arguments
