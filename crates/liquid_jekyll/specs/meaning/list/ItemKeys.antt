-- The key of an item: its property, or what a path of names leads to.
use Rattle.std.specs.Prelude.{ℕ, ℤ, Bool, true, false, ◌==◌, List, [], ◌∷◌, Option, Some, None, Result, Ok, codes, if◌then◌else◌}
use Rattle.std.specs.List.{list_any}
use Rattle.std.specs.Str.{byte}
use Rattle.liquid_error.specs.meaning.Refusal.{Refusal, ok_then}
use Rattle.liquid_scalar.specs.meaning.Scalar.{Scal, integer, boolean, text, whole_number_of_text}
use Rattle.liquid_value.specs.meaning.Tree.{Tree, nil, scalar}
use Rattle.liquid_strings.specs.meaning.Split.{split}
use Rattle.liquid_filters.specs.meaning.value.Parts.{property}
use Rattle.liquid_jekyll.specs.meaning.text.Spaces.{stripped}

-- nil and booleans lead to `false`
abbrev pub leads_to_false : Tree → Bool
leads_to_false nil = true
leads_to_false (scalar (boolean b)) = true
leads_to_false other = false

-- a property of a value that a name has led to
abbrev pub property_on : List ℕ → Tree → Result Tree Refusal
property_on name t = if leads_to_false t then Ok (scalar (boolean false)) else property name t

-- what further names lead to
abbrev pub walked_on : List (List ℕ) → Tree → Result Tree Refusal
walked_on [] t = Ok t
walked_on (n ∷ ns) t = ok_then (property_on n t) (walked_on ns)

-- what names lead to from an item
abbrev pub walked : List (List ℕ) → Tree → Result Tree Refusal
walked [] item = Ok item
walked (n ∷ ns) item = ok_then (property n item) (walked_on ns)

abbrev pub has_dot : List ℕ → Bool
has_dot path = list_any (λ b. b == byte ".") path

-- the property of an item, or, if the path has dots, what the names between them lead to
abbrev pub attribute : List ℕ → Tree → Result Tree Refusal
attribute path item = if has_dot path then walked (split (codes ".") path) item else property path item

-- the integer that a string writes without a plus sign
abbrev pub unsigned_number : List ℕ → Option ℤ
unsigned_number [] = whole_number_of_text []
unsigned_number (b ∷ bs) = if b == byte "+" then None else whole_number_of_text (b ∷ bs)

-- the number that a string writes between whitespace
abbrev pub number_of_scalar : Scal → Option ℤ
number_of_scalar (text t) = unsigned_number (stripped t)
number_of_scalar other = None

abbrev pub number_in : Tree → Option ℤ
number_in (scalar x) = number_of_scalar x
number_in other = None

-- the number in place of a value that writes one
abbrev pub number_or : Option ℤ → Tree → Tree
number_or (Some n) t = scalar (integer n)
number_or None t = t

abbrev pub numbered : Tree → Tree
numbered t = number_or (number_in t) t

-- the key of an item by a path
abbrev pub key_of : List ℕ → Tree → Result Tree Refusal
key_of path item = ok_then (attribute path item) (λ t. Ok (numbered t))

-- each item after its key, or the first error
abbrev pub keyed : List ℕ → List Tree → Result (List (Tree × Tree)) Refusal
keyed path [] = Ok []
keyed path (t ∷ ts) = ok_then (key_of path t) (λ key. ok_then (keyed path ts) (λ entries. Ok ((key, t) ∷ entries)))
