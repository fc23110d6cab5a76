-- The filter that groups items by the value of a chain.
use Rattle.std.specs.Prelude.{ℕ, List, [], ◌∷◌, codes, string_bytes, Result, Ok, Err}
use Rattle.liquid_error.specs.meaning.Refusal.{Refusal, ok_then}
use Rattle.liquid_value.specs.meaning.Tree.{Tree, array, object}
use Rattle.liquid_runtime.specs.meaning.Erased.{Erased}
use Rattle.liquid_plugins.specs.meaning.ArgumentsOf.{Arguments}
use Rattle.liquid_plugins.specs.meaning.Chain.{FilterMeaning, chain_value}
use Rattle.liquid_plugins.specs.meaning.Expression.{ExpressionShape}
use Rattle.liquid_plugins.specs.meaning.ExpressionOf.{chain_of}
use Rattle.liquid_parser.specs.meaning.Lang.{Filters}
use Rattle.liquid_filters.specs.meaning.list.Lists.{list_of}
use Rattle.liquid_filters.specs.meaning.value.Errors.{array_expected, unexpected_arguments}
use Rattle.liquid_filters.specs.meaning.value.Items.{own_items}
use Rattle.liquid_jekyll.specs.meaning.list.Grouping.{groups}
use Rattle.jekyll_language.specs.declared.expressions.grouping.GroupCall.{GroupCall}
use Rattle.jekyll_language.specs.declared.expressions.grouping.GroupCallShape.{GroupCallShape}
use Rattle.jekyll_language.specs.meaning.expressions.Chains.{chain_read}
use Rattle.jekyll_language.specs.meaning.expressions.Items.{with_name}
use Rattle.jekyll_language.specs.meaning.expressions.Reading.{text_literal}

abbrev pub group_by_exp : List ℕ
group_by_exp = codes "group_by_exp"

-- the shape of a filter
abbrev pub call_of : {X F : Type 0} → (X → F) → GroupCall X → GroupCallShape F
call_of shape c = record { name = string_bytes c.name; chain = chain_of shape c.chain }

module _ {F : Type 0} (filters : Filters F) where
  -- the filter that two arguments make: the name of an item, and the chain
  abbrev pub call_read : ExpressionShape → ExpressionShape → Result (GroupCallShape F) Refusal
  call_read item chain =
      ok_then (text_literal item) (λ name. ok_then (text_literal chain) (λ text. ok_then (chain_read filters text) (λ c.
      Ok (record { name = name; chain = c }))))

  -- the filter that arguments make, which have to be two without keywords
  abbrev pub call_of_two : List ExpressionShape → List (List ℕ × ExpressionShape) → Result (GroupCallShape F) Refusal
  call_of_two (item ∷ chain ∷ []) [] = call_read item chain
  call_of_two es ks = Err unexpected_arguments

  abbrev pub call_made : Arguments → Result (GroupCallShape F) Refusal
  call_made arguments = call_of_two arguments.positional arguments.keyword

module _ {F : Type 0} (m : FilterMeaning F) where
  -- the key of an item: the value of the chain where the item has its name
  abbrev pub key_of : GroupCallShape F → Erased → Tree → Result Tree Refusal
  key_of call seen t = chain_value m call.chain (with_name call.name t seen)

  -- each item beside its key
  abbrev pub keyed : GroupCallShape F → Erased → List Tree → Result (List (Tree × Tree)) Refusal
  keyed call seen [] = Ok []
  keyed call seen (t ∷ ts) = ok_then (key_of call seen t) (λ key. ok_then (keyed call seen ts) (λ more. Ok ((key, t) ∷ more)))

  abbrev pub in_groups : GroupCallShape F → Erased → List Tree → Result Tree Refusal
  in_groups call seen ts = ok_then (keyed call seen ts) (λ es. Ok (list_of (groups es)))

  -- the own items of an array in groups; an object is an error, and any other input stays
  abbrev pub answer : GroupCallShape F → Tree → Erased → Result Tree Refusal
  answer call (array ts) seen = in_groups call seen (own_items ts)
  answer call (object ms) seen = Err (array_expected (object ms))
  answer call other seen = Ok other

  abbrev pub calls : FilterMeaning (GroupCallShape F)
  calls = record { answers = answer; label = λ call. group_by_exp }
