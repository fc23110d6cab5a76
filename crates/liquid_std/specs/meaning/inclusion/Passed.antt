-- What a call passes to its partial.
use Rattle.std.specs.Prelude.{List, [], ◌∷◌, Bool, true, false, Option, None, Some, Result, Ok}
use Rattle.liquid_error.specs.meaning.Refusal.{Refusal, ok_then}
use Rattle.liquid_value.specs.meaning.Tree.{Tree, array, object}
use Rattle.liquid_value.specs.meaning.View.{view}
use Rattle.liquid_runtime.specs.meaning.View.{View}
use Rattle.liquid_plugins.specs.meaning.Evaluation.{evaluate}
use Rattle.liquid_tags.specs.declared.for_block.series.SeriesShape.{SeriesShape}
use Rattle.liquid_tags.specs.declared.for_block.series.SeriesShape.TheVariants.{Of, Between}
use Rattle.liquid_tags.specs.meaning.Items.{items_left}
use Rattle.liquid_tags.specs.meaning.Series.{items_of, pairs, trees}
use Rattle.liquid_std.specs.declared.inclusion.calls.Manner.{Manner}
use Rattle.liquid_std.specs.declared.inclusion.calls.Manner.TheVariants.{Whole, Items, Loop}
use Rattle.liquid_std.specs.declared.inclusion.passed.Passed.{Passed}
use Rattle.liquid_std.specs.declared.inclusion.passed.Passed.TheVariants.{One, Each}

-- the items that are passed
abbrev pub items_passed : Passed → List Tree
items_passed (One value) = view value ∷ []
items_passed (Each items) = items_left items

abbrev pub is_loop : Manner → Bool
is_loop Whole = false
is_loop Items = false
is_loop Loop = true

-- the items of a value that is passed item by item
abbrev pub listed : Manner → Tree → Option (List Tree)
listed Items (array ts) = Some (trees ts)
listed Loop (array ts) = Some (trees ts)
listed Loop (object ms) = Some (pairs ms)
listed manner t = None

-- the items, and whether each is given with `forloop`; a value without items is passed once, without it
abbrev pub items_or_value : Manner → Tree → Option (List Tree) → List Tree × Bool
items_or_value manner t None = (t ∷ [], false)
items_or_value manner t (Some ts) = (ts, is_loop manner)

abbrev pub value_items : Manner → Tree → List Tree × Bool
value_items manner t = items_or_value manner t (listed manner t)

abbrev pub passes : {Reg : Type 0} → View Reg → Manner → SeriesShape → Result (List Tree × Bool) Refusal
passes v manner (Of e) = ok_then (evaluate v e) (λ t. Ok (value_items manner t))
passes v manner (Between from to) = ok_then (items_of v (Between from to)) (λ ts. Ok (ts, is_loop manner))
