-- The items for which a condition holds.
use Rattle.std.specs.Prelude.{ℕ, Bool, List, [], ◌∷◌, cond, None, Result, Ok}
use Rattle.std.specs.FinMap.{empty, insert}
use Rattle.liquid_error.specs.meaning.Refusal.{Refusal, ok_then}
use Rattle.liquid_value.specs.meaning.Tree.{Tree, nil}
use Rattle.liquid_runtime.specs.meaning.Erased.{Erased}
use Rattle.liquid_runtime.specs.meaning.Frames.{begin_stack}
use Rattle.liquid_std.specs.declared.conditions.equality.Equality.TheVariants.{Same}
use Rattle.liquid_std.specs.meaning.conditions.Conditions.{holds}
use Rattle.liquid_filters.specs.meaning.list.Lists.{list_of}
use Rattle.jekyll_language.specs.declared.expressions.kinds.ExpressionCallShape.{ExpressionCallShape}
use Rattle.jekyll_language.specs.declared.expressions.kinds.ExpressionKind.{ExpressionKind}
use Rattle.jekyll_language.specs.declared.expressions.kinds.ExpressionKind.TheVariants.{WhereExp, FindExp}

-- what a filter sees, with a name over all other names
abbrev pub with_name : List ℕ → Tree → Erased → Erased
with_name name t seen = begin_stack (insert empty name t) None seen

-- whether the condition holds where an item has its name
abbrev pub item_holds : ExpressionCallShape → Erased → Tree → Result Bool Refusal
item_holds call seen t = holds Same (with_name call.name t seen) call.condition

-- the items for which it holds, and the first of them, or nil
abbrev pub kept : ExpressionCallShape → Erased → List Tree → Result (List Tree) Refusal
kept call seen [] = Ok []
kept call seen (t ∷ ts) =
    ok_then (item_holds call seen t) (λ it_holds. ok_then (kept call seen ts) (λ more. Ok (cond it_holds (t ∷ more) more)))

abbrev pub first : ExpressionCallShape → Erased → List Tree → Result Tree Refusal
first call seen [] = Ok nil
first call seen (t ∷ ts) = ok_then (item_holds call seen t) (λ it_holds. cond it_holds (Ok t) (first call seen ts))

-- what each filter chooses
abbrev pub chosen_by : ExpressionKind → ExpressionCallShape → Erased → List Tree → Result Tree Refusal
chosen_by WhereExp call seen ts = ok_then (kept call seen ts) (λ them. Ok (list_of them))
chosen_by FindExp call seen ts = first call seen ts

abbrev pub chosen : ExpressionCallShape → Erased → List Tree → Result Tree Refusal
chosen call seen ts = chosen_by call.kind call seen ts
