-- The calls of partials that tokens make: with a value or without.
use Rattle.std.specs.Prelude.{ℕ, List, [], ◌∷◌, codes, Bool, false, not, ◌&&◌, bytes_eq, cond, map, Vec, String}
use Rattle.std.specs.Prelude.{Option, None, Some, option_and_then, Result, Ok, Err}
use Rattle.std.specs.declared.alloc.Global.{Global}
use Rattle.liquid_error.specs.declared.place.Place.{Place}
use Rattle.liquid_error.specs.meaning.Refusal.{Refusal, located, ok_then}
use Rattle.liquid_parser.specs.meaning.Handed.{Token, Tokens, expect_identifier, expect_value, next, or_unexpected}
use Rattle.liquid_plugins.specs.declared.expression.Expression.{Expression}
use Rattle.liquid_plugins.specs.meaning.Expression.{ExpressionShape}
use Rattle.liquid_tags.specs.declared.for_block.series.SeriesShape.{SeriesShape}
use Rattle.liquid_tags.specs.declared.for_block.series.SeriesShape.TheVariants.{Of}
use Rattle.liquid_tags.specs.declared.partial_call.call.Inclusion.{Inclusion}
use Rattle.liquid_tags.specs.declared.partial_call.call.Inclusion.TheVariants.{Include, Render}
use Rattle.liquid_tags.specs.meaning.Asked.{next_as, token_expected}
use Rattle.liquid_tags.specs.meaning.BlockPlugins.{expect_series}
use Rattle.liquid_tags.specs.meaning.CallsGiven.{expect_colon}
use Rattle.liquid_tags.specs.meaning.Partials.{CallShape, Pair, pair_of}
use Rattle.liquid_std.specs.declared.inclusion.calls.Manner.{Manner}
use Rattle.liquid_std.specs.declared.inclusion.calls.Manner.TheVariants.{Whole, Items, Loop}
use Rattle.liquid_std.specs.declared.inclusion.calls.PartialCallShape.{PartialCallShape}

abbrev pub pairs_of : Vec (String Global × Expression) Global → List Pair
pairs_of v = map pair_of v.items

abbrev pub is_comma : Token → Bool
is_comma t = bytes_eq t.text (codes ",")

abbrev pub missing : {A : Type 0} → Place → Result A Refusal
missing place = Err (located token_expected place)

-- the pairs that tokens make: a name, a colon and a value for each. Before each pair, and after the last, there may be a
-- comma
abbrev mutual
  pub pairs_from : List Token → Result (List Pair) Refusal
  pairs_from [] = Ok []
  pairs_from (t ∷ ts) =
      cond (is_comma t) (after_comma ts) (ok_then (or_unexpected t (expect_identifier t)) (λ name. from_colon name t.following ts))

  pub after_comma : List Token → Result (List Pair) Refusal
  after_comma [] = Ok []
  after_comma (t ∷ ts) = ok_then (or_unexpected t (expect_identifier t)) (λ name. from_colon name t.following ts)

  pub from_colon : List ℕ → Place → List Token → Result (List Pair) Refusal
  from_colon name place [] = missing place
  from_colon name place (t ∷ ts) = ok_then (or_unexpected t (expect_colon t)) (λ u. from_value name t.following ts)

  pub from_value : List ℕ → Place → List Token → Result (List Pair) Refusal
  from_value name place [] = missing place
  from_value name place (t ∷ ts) =
      ok_then (or_unexpected t (expect_value t)) (λ e. ok_then (pairs_from ts) (λ pairs. Ok ((name, e) ∷ pairs)))

-- a pair whose first token this is, and more
abbrev pub pair_from : Token → List Token → Result (List Pair) Refusal
pair_from t ts = ok_then (or_unexpected t (expect_identifier t)) (λ name. from_colon name t.following ts)

-- the tokens after a word, if the word comes next. With a colon after it the word is the name of a pair
abbrev pub begin_with_colon : List Token → Bool
begin_with_colon [] = false
begin_with_colon (t ∷ ts) = bytes_eq t.text (codes ":")

abbrev pub if_word : List ℕ → Token × Tokens → Option Tokens
if_word word given = cond (bytes_eq given.0.text word && not (begin_with_colon given.1.left)) (Some given.1) None

abbrev pub after_word : List ℕ → Tokens → Option Tokens
after_word word ts = option_and_then (if_word word) (next ts)

-- a call without a value, or with one
pub data CallRead : Type 0 where
  alone : CallShape → CallRead
  passing : PartialCallShape → CallRead

-- what comes before the pairs of a call with a value
pub record Front : Type 0 where
  pub inclusion : Inclusion
  pub name : ExpressionShape
  pub manner : Manner
  pub series : SeriesShape

abbrev pub with_pairs : Front → Option (List ℕ) → Tokens → Result CallRead Refusal
with_pairs f alias ts =
    ok_then (pairs_from ts.left) (λ pairs. Ok (passing (record {
      inclusion = f.inclusion;
      name = f.name;
      manner = f.manner;
      series = f.series;
      alias = alias;
      pairs = pairs;
    })))

-- after `as`: a name, and pairs
abbrev pub alias_given : Front → Tokens → Result CallRead Refusal
alias_given f ts = ok_then (next_as expect_identifier ts) (λ alias. with_pairs f (Some alias.0) alias.1)

-- `as` and a name, if they come next, and pairs
abbrev pub by_alias : Front → Tokens → Option Tokens → Result CallRead Refusal
by_alias f ts None = with_pairs f None ts
by_alias f ts (Some after) = alias_given f after

abbrev pub after_front : Front → Tokens → Result CallRead Refusal
after_front f ts = by_alias f ts (after_word (codes "as") ts)

-- one value
abbrev pub value_passed : Inclusion → Manner → ExpressionShape → Tokens → Result CallRead Refusal
value_passed i manner name ts =
    ok_then (next_as expect_value ts)
    (λ e. after_front (record { inclusion = i; name = name; manner = manner; series = Of e.0 }) e.1)

-- a value or a range
abbrev pub series_passed : ExpressionShape → Tokens → Result CallRead Refusal
series_passed name ts =
    ok_then (next_as expect_series ts)
    (λ s. after_front (record { inclusion = Render; name = name; manner = Loop; series = s.0 }) s.1)

-- after `with`, and after `for`, which is the same in an `include`
abbrev pub with_given : Inclusion → ExpressionShape → Tokens → Result CallRead Refusal
with_given Include name ts = value_passed Include Items name ts
with_given Render name ts = value_passed Render Whole name ts

abbrev pub for_given : Inclusion → ExpressionShape → Tokens → Result CallRead Refusal
for_given Include name ts = value_passed Include Items name ts
for_given Render name ts = series_passed name ts

abbrev pub alone_given : ExpressionShape → Tokens → Result CallRead Refusal
alone_given name ts = ok_then (pairs_from ts.left) (λ pairs. Ok (alone (name, pairs)))

abbrev pub by_for : Inclusion → ExpressionShape → Tokens → Option Tokens → Result CallRead Refusal
by_for i name ts None = alone_given name ts
by_for i name ts (Some after) = for_given i name after

abbrev pub by_with : Inclusion → ExpressionShape → Tokens → Option Tokens → Result CallRead Refusal
by_with i name ts None = by_for i name ts (after_word (codes "for") ts)
by_with i name ts (Some after) = with_given i name after

abbrev pub after_name : Inclusion → ExpressionShape → Tokens → Result CallRead Refusal
after_name i name ts = by_with i name ts (after_word (codes "with") ts)

-- a value, perhaps `with` or `for` and what is passed, and pairs
abbrev pub call_given : Inclusion → Tokens → Result CallRead Refusal
call_given i ts = ok_then (next_as expect_value ts) (λ name. after_name i name.0 name.1)
