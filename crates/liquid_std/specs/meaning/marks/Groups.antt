-- The groups of `cycle`, and the keys under which their places are kept.
use Rattle.std.specs.Prelude.{ℕ, List, [], ◌∷◌, ◌++◌, codes, length, map, ok_or, string_bytes, Result, Ok}
use Rattle.std.specs.Fmt.{decimal}
use Rattle.liquid_error.specs.meaning.Refusal.{Refusal, ok_then}
use Rattle.liquid_scalar.specs.meaning.Scalar.{render_scalar}
use Rattle.liquid_value.specs.meaning.Parts.{as_scalar}
use Rattle.liquid_value.specs.meaning.Tree.{Tree}
use Rattle.liquid_runtime.specs.meaning.View.{View}
use Rattle.liquid_plugins.specs.meaning.Evaluation.{evaluate}
use Rattle.liquid_plugins.specs.meaning.Expression.{ExpressionShape, expression_text}
use Rattle.liquid_plugins.specs.meaning.ExpressionOf.{expression_of}
use Rattle.liquid_filters.specs.meaning.value.Errors.{found_error}
use Rattle.liquid_std.specs.declared.marks.groups.Group.{Group}
use Rattle.liquid_std.specs.declared.marks.groups.Group.TheVariants as group
use Rattle.liquid_std.specs.declared.marks.groups.GroupShape.{GroupShape}
use Rattle.liquid_std.specs.declared.marks.groups.GroupShape.TheVariants.{Named, Unnamed}

-- the tags that share a place: those of a name, or those without a name whose values are displayed alike
pub data Sharing : Type 0 where
  named : List ℕ → Sharing
  unnamed : List (List ℕ) → Sharing

-- a text after its length and a colon
abbrev pub with_length : List ℕ → List ℕ
with_length text = decimal (length text) ++ (codes ":" ++ text)

abbrev pub with_lengths : List (List ℕ) → List ℕ
with_lengths [] = []
with_lengths (t ∷ ts) = with_length t ++ with_lengths ts

-- the key of a group: each has its own, since a length is a digit at least
abbrev pub group_key : Sharing → List ℕ
group_key (named name) = codes "=" ++ name
group_key (unnamed texts) = with_lengths texts

-- values as they are displayed
abbrev pub displayed : List ExpressionShape → List (List ℕ)
displayed es = map expression_text es

-- the shape of a tag's group
abbrev pub group_of : Group → GroupShape
group_of (group.Named e) = Named (expression_of e)
group_of (group.Unnamed key) = Unnamed (string_bytes key)

-- the text of a scalar names a group
abbrev pub group_name : Tree → Result (List ℕ) Refusal
group_name t = ok_then (ok_or (as_scalar t) (found_error (codes "Group name expected") t)) (λ x. Ok (render_scalar x))

abbrev pub named_key : Tree → Result (List ℕ) Refusal
named_key t = ok_then (group_name t) (λ name. Ok (group_key (named name)))

-- the key of a tag's group
abbrev pub key_in : {Reg : Type 0} → View Reg → GroupShape → Result (List ℕ) Refusal
key_in v (Named e) = ok_then (evaluate v e) named_key
key_in v (Unnamed key) = Ok key
