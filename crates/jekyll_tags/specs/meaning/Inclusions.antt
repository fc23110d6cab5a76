-- What inclusions of partials render.
use Rattle.std.specs.Prelude.{ℕ, zero, suc, List, [], ◌∷◌, ◌++◌, codes, length, map, None, Some, Result, Ok}
use Rattle.std.specs.FinMap.{empty, insert}
use Rattle.liquid_error.specs.meaning.Refusal.{Refusal, ok_then}
use Rattle.liquid_value.specs.meaning.Members.{put_member}
use Rattle.liquid_value.specs.meaning.Render.{render}
use Rattle.liquid_value.specs.meaning.Tree.{Members, no_members, object}
use Rattle.liquid_runtime.specs.meaning.Frames.{FrameShape, no_frame, stack_frame}
use Rattle.liquid_runtime.specs.meaning.View.{View}
use Rattle.liquid_plugins.specs.meaning.Chain.{ChainShape, FilterMeaning, chain_value}
use Rattle.liquid_plugins.specs.meaning.Evaluation.{evaluate}
use Rattle.liquid_plugins.specs.meaning.ExpressionOf.{chain_of}
use Rattle.liquid_plugins.specs.meaning.Turning.{answers, begins_with, captures_nothing}
use Rattle.liquid_plugins.specs.meaning.Turns.{TurnShape, partial_turn, NodeMeaning}
use Rattle.liquid_tags.specs.meaning.Partials.{Pair, pair_of}
use Rattle.jekyll_tags.specs.declared.inclusion.JekyllInclusion.{JekyllInclusion}
use Rattle.jekyll_tags.specs.declared.inclusion.JekyllInclusionShape.{JekyllInclusionShape}
use Rattle.jekyll_tags.specs.declared.plugin.JekyllTags.{JekyllTags}
use Rattle.jekyll_tags.specs.meaning.Named.{prefix, word}

-- the shape of an inclusion
abbrev pub inclusion_of : {X F : Type 0} → (X → F) → JekyllInclusion X → JekyllInclusionShape F
inclusion_of shape i = record {
  tag = i.tag;
  name = map (chain_of shape) i.name.items;
  pairs = map pair_of i.pairs.items;
}

module _ {F Reg : Type 0} (m : FilterMeaning F) (v : View Reg) where
  -- what a chain writes
  abbrev pub chain_text : ChainShape F → Result (List ℕ) Refusal
  chain_text c = ok_then (chain_value m c v) (λ t. Ok (render t))

  -- what chains write, joined; they are evaluated from left to right
  abbrev pub joined_texts : List (ChainShape F) → Result (List ℕ) Refusal
  joined_texts [] = Ok []
  joined_texts (c ∷ cs) = ok_then (chain_text c) (λ text. ok_then (joined_texts cs) (λ rest. Ok (text ++ rest)))

-- these members, and over them the pairs with their values, evaluated from left to right
abbrev pub members_given : {Reg : Type 0} → View Reg → Members → List Pair → Result Members Refusal
members_given v ms [] = Ok ms
members_given v ms (p ∷ ps) = ok_then (evaluate v p.1) (λ t. members_given v (put_member p.0 t ms) ps)

-- the object `include` in a stack frame; without pairs no frame
abbrev pub frame_for : ℕ → Members → FrameShape
frame_for zero ms = no_frame
frame_for (suc n) ms = stack_frame (insert empty (codes "include") (object ms)) None

-- the partial, with the trace of the tag
abbrev pub partial_for : JekyllTags → List ℕ → ℕ → Members → TurnShape
partial_for tag name pairs ms =
    partial_turn (prefix tag ++ name) (frame_for pairs ms) (Some (word tag ++ (prefix tag ++ name)))

-- the name is evaluated first, then the pairs
abbrev pub inclusion_turn : {F Reg : Type 0} → FilterMeaning F → JekyllInclusionShape F → View Reg → Result TurnShape Refusal
inclusion_turn m i v =
    ok_then (joined_texts m v i.name) (λ name. ok_then (members_given v no_members i.pairs) (λ ms.
    Ok (partial_for i.tag name (length i.pairs) ms)))

-- each takes one turn, and changes nothing
abbrev pub inclusion_nodes : {F Reg : Type 0} → FilterMeaning F → NodeMeaning (JekyllInclusionShape F) ℕ Reg
inclusion_nodes m = record {
  starts = λ i. begins_with 1;
  count = λ turns. turns;
  takes = λ i progress v. answers (inclusion_turn m i v) progress v;
  catches = captures_nothing;
}
