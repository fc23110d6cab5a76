-- The filters with a condition.
use Rattle.std.specs.Prelude.{ℕ, List, [], ◌∷◌, codes, string_bytes, Result, Ok, Err}
use Rattle.std.specs.Option.{option_map_or}
use Rattle.liquid_error.specs.meaning.Refusal.{Refusal, ok_then}
use Rattle.liquid_value.specs.meaning.Tree.{Tree}
use Rattle.liquid_runtime.specs.meaning.Erased.{Erased}
use Rattle.liquid_plugins.specs.meaning.ArgumentsOf.{Arguments}
use Rattle.liquid_plugins.specs.meaning.Chain.{FilterMeaning}
use Rattle.liquid_plugins.specs.meaning.Expression.{ExpressionShape}
use Rattle.liquid_std.specs.meaning.conditions.Conditions.{condition_of}
use Rattle.liquid_filters.specs.meaning.value.Errors.{unexpected_arguments}
use Rattle.liquid_jekyll.specs.meaning.list.Own.{own}
use Rattle.jekyll_language.specs.declared.expressions.kinds.ExpressionCall.{ExpressionCall}
use Rattle.jekyll_language.specs.declared.expressions.kinds.ExpressionCallShape.{ExpressionCallShape}
use Rattle.jekyll_language.specs.declared.expressions.kinds.ExpressionKind.{ExpressionKind}
use Rattle.jekyll_language.specs.declared.expressions.kinds.ExpressionKind.TheVariants.{WhereExp, FindExp}
use Rattle.jekyll_language.specs.meaning.expressions.Items.{chosen}
use Rattle.jekyll_language.specs.meaning.expressions.Reading.{condition_read, text_literal}

abbrev pub kind_name : ExpressionKind → List ℕ
kind_name WhereExp = codes "where_exp"
kind_name FindExp = codes "find_exp"

-- the shape of a filter
abbrev pub call_of : ExpressionCall → ExpressionCallShape
call_of c = record { kind = c.kind; name = string_bytes c.name; condition = condition_of c.condition }

-- the filter that two arguments make: the name of an item, and the condition
abbrev pub call_read : ExpressionKind → ExpressionShape → ExpressionShape → Result ExpressionCallShape Refusal
call_read kind item condition =
    ok_then (text_literal item) (λ name. ok_then (text_literal condition) (λ text. ok_then (condition_read text) (λ c.
    Ok (record { kind = kind; name = name; condition = c }))))

-- the filter that arguments make, which have to be two without keywords
abbrev pub call_of_two : ExpressionKind → List ExpressionShape → List (List ℕ × ExpressionShape) → Result ExpressionCallShape Refusal
call_of_two kind (item ∷ condition ∷ []) [] = call_read kind item condition
call_of_two kind es ks = Err unexpected_arguments

abbrev pub call_made : ExpressionKind → Arguments → Result ExpressionCallShape Refusal
call_made kind arguments = call_of_two kind arguments.positional arguments.keyword

-- what a filter makes of an input: what it chooses of an array's items or an object's values; any other input is kept
abbrev pub answer : ExpressionCallShape → Tree → Erased → Result Tree Refusal
answer call input seen = option_map_or (chosen call seen) (own input) (Ok input)

abbrev pub calls : FilterMeaning ExpressionCallShape
calls = record { answers = answer; label = λ call. kind_name call.kind }
