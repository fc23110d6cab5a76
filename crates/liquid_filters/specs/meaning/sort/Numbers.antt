-- The order of a list by numbers.
use Rattle.std.specs.Prelude.{List, [], ◌∷◌, Bool, map, Option, Some, None, Result, Ok}
use Rattle.std.specs.declared.cmp.Ordering.{Ordering}
use Rattle.std.specs.declared.cmp.Ordering.TheVariants.{Less, Equal, Greater}
use Rattle.std.specs.Ordering.{is_lt}
use Rattle.liquid_decimals.specs.meaning.Arithmetic.{compare}
use Rattle.liquid_decimals.specs.meaning.Dec.{Dec}
use Rattle.liquid_error.specs.meaning.Refusal.{Refusal, ok_then}
use Rattle.liquid_value.specs.meaning.Tree.{Tree, nil}
use Rattle.liquid_filters.specs.meaning.value.Decimals.{decimal}
use Rattle.liquid_filters.specs.meaning.list.Keys.{entries}
use Rattle.liquid_filters.specs.meaning.list.Lists.{list_of}
use Rattle.liquid_filters.specs.meaning.sort.Order.{in_order}

-- the number of a key, which nil has not
abbrev pub number_of_key : Tree → Result (Option Dec) Refusal
number_of_key nil = Ok None
number_of_key t = ok_then (decimal t) (λ d. Ok (Some d))

-- each item after the number of its key, or the first error
abbrev pub numbered : List (Tree × Tree) → Result (List (Option Dec × Tree)) Refusal
numbered [] = Ok []
numbered (e ∷ es) = ok_then (number_of_key e.0) (λ n. ok_then (numbered es) (λ ns. Ok ((n, e.1) ∷ ns)))

-- the order of two numbers; what has none is last
abbrev pub number_cmp : Option Dec → Option Dec → Ordering
number_cmp (Some a) (Some b) = compare a b
number_cmp (Some a) None = Less
number_cmp None (Some b) = Greater
number_cmp None None = Equal

-- whether an item comes before another because its number does
abbrev pub has_lesser_number : Option Dec × Tree → Option Dec × Tree → Bool
has_lesser_number a b = is_lt (number_cmp a.0 b.0)

-- the items alone
abbrev pub numbered_items : List (Option Dec × Tree) → List Tree
numbered_items ns = map (λ n. n.1) ns

-- the items in the order of their numbers, which are their own or those of the property that the argument names
abbrev pub sorted_numerically : Tree → List Tree → Result Tree Refusal
sorted_numerically input arguments =
    ok_then (entries input arguments)
    (λ es. ok_then (numbered es) (λ ns. Ok (list_of (numbered_items (in_order has_lesser_number ns)))))
