-- What inclusions make of their tokens.
use Rattle.std.specs.Prelude.{ℕ, Bool, false, cond, List, [], ◌∷◌, bytes_eq, codes, Option, Result, Ok}
use Rattle.liquid_error.specs.declared.place.Place.{Place}
use Rattle.liquid_error.specs.meaning.Refusal.{Refusal, ok_then}
use Rattle.liquid_parser.specs.meaning.Cursors.{expect_filter_chain, expect_str}
use Rattle.liquid_parser.specs.meaning.Handed.{Token, Tokens, expect_identifier, expect_value, or_unexpected}
use Rattle.liquid_parser.specs.meaning.Lang.{Filters}
use Rattle.liquid_plugins.specs.meaning.Chain.{ChainShape}
use Rattle.liquid_plugins.specs.meaning.Expression.{ExpressionShape}
use Rattle.liquid_tags.specs.meaning.Asked.{next_as}
use Rattle.liquid_tags.specs.meaning.Partials.{Pair}
use Rattle.liquid_std.specs.meaning.inclusion.CallsGiven.{missing}
use Rattle.jekyll_tags.specs.declared.inclusion.JekyllInclusionShape.{JekyllInclusionShape}
use Rattle.jekyll_tags.specs.declared.plugin.JekyllTags.{JekyllTags}
use Rattle.jekyll_tags.specs.declared.plugin.JekyllTags.TheVariants.{Include, IncludeCached, IncludeRelative, Seo}

abbrev pub expect_sign : Token → Option (Unit {0})
expect_sign = expect_str (codes "=")

-- the pairs that tokens make: a name, `=` and a value for each
abbrev mutual
  pub pairs_from : List Token → Result (List Pair) Refusal
  pairs_from [] = Ok []
  pairs_from (t ∷ ts) = ok_then (or_unexpected t (expect_identifier t)) (λ name. from_sign name t.following ts)

  pub from_sign : List ℕ → Place → List Token → Result (List Pair) Refusal
  from_sign name place [] = missing place
  from_sign name place (t ∷ ts) = ok_then (or_unexpected t (expect_sign t)) (λ u. from_value name t.following ts)

  pub from_value : List ℕ → Place → List Token → Result (List Pair) Refusal
  from_value name place [] = missing place
  from_value name place (t ∷ ts) =
      ok_then (or_unexpected t (expect_value t)) (λ e. ok_then (pairs_from ts) (λ pairs. Ok ((name, e) ∷ pairs)))

-- the pair whose first token this is, and the tokens after it
abbrev pub pair_given : Token → Tokens → Result (Pair × Tokens) Refusal
pair_given t ts =
    ok_then (or_unexpected t (expect_identifier t)) (λ name. ok_then (next_as expect_sign ts) (λ sign.
    ok_then (next_as expect_value sign.1) (λ value. Ok ((name, value.0), value.1))))

-- whether this text is the next token
abbrev pub comes_next : List ℕ → List Token → Bool
comes_next text [] = false
comes_next text (t ∷ ts) = bytes_eq t.text text

module _ {F : Type 0} (filters : Filters F) where
  -- chains up to `>`, and the tokens after it
  abbrev pub parts_from : Place → List Token → Result (List (ChainShape F) × Tokens) Refusal
  parts_from place [] = missing place
  parts_from place (t ∷ ts) =
      cond (bytes_eq t.text (codes ">")) (Ok ([], record { following = t.following; left = ts }))
      (ok_then (or_unexpected t (expect_filter_chain filters t)) (λ c. ok_then (parts_from t.following ts) (λ p. Ok (c ∷ p.0, p.1))))

  -- a chain, or chains between `<` and `>`
  abbrev pub parts_given : Tokens → Result (List (ChainShape F) × Tokens) Refusal
  parts_given ts =
      cond (comes_next (codes "<") ts.left)
      (ok_then (next_as (expect_str (codes "<")) ts) (λ u. parts_from u.1.following u.1.left))
      (ok_then (next_as (expect_filter_chain filters) ts) (λ c. Ok (c.0 ∷ [], c.1)))

abbrev pub name_given : {F : Type 0} → JekyllTags → Filters F → Tokens → Result (List (ChainShape F) × Tokens) Refusal
name_given Include filters ts = parts_given filters ts
name_given IncludeCached filters ts = parts_given filters ts
name_given IncludeRelative filters ts = parts_given filters ts
name_given Seo filters ts = Ok ([], ts)

-- a name, and pairs up to the end
abbrev pub tag_given : {F : Type 0} → JekyllTags → Filters F → Tokens → Result (JekyllInclusionShape F) Refusal
tag_given tag filters ts =
    ok_then (name_given tag filters ts) (λ n. ok_then (pairs_from n.1.left) (λ pairs. Ok (record { tag = tag; name = n.0; pairs = pairs })))
