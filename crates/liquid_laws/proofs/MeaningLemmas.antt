-- The blocks of the library mean what their images mean.
use Rattle.std.proofs.Common.{◌≡◌, ℕ, ◌+◌, cond, List, [], ◌∷◌, map, Option, None, pos, ℤ, Result, Ok, Err, refl, ap, ◌∙◌}
use Rattle.std.specs.Prelude.{false, unwrap_or}
use Rattle.liquid_error.specs.meaning.Refusal.{Refusal, ok_then}
use Rattle.liquid_value.specs.meaning.Tree.{Tree}
use Rattle.liquid_runtime.specs.meaning.View.{View}
use Rattle.liquid_plugins.specs.meaning.Turns.{TurnShape, Answered}
use Rattle.liquid_tags.specs.declared.blocks.BlockShape.{BlockShape}
use Rattle.liquid_tags.specs.declared.blocks.BlockShape.TheVariants.{If, For, Raw}
use Rattle.liquid_tags.specs.declared.blocks.ProgressShape.{ProgressShape}
use Rattle.liquid_tags.specs.declared.blocks.ProgressShape.TheVariants.{Once, Loop}
use Rattle.liquid_tags.specs.declared.if_block.condition.Comparison.TheVariants as comparison
use Rattle.liquid_tags.specs.declared.if_block.condition.ConditionShape.{ConditionShape}
use Rattle.liquid_tags.specs.declared.if_block.condition.ConditionShape.TheVariants.{Holds, Compares}
use Rattle.liquid_tags.specs.meaning.Blocks as library
use Rattle.liquid_tags.specs.meaning.Conditions as condition
use Rattle.liquid_tags.specs.meaning.Series.{items_of}
use Rattle.liquid_std.specs.declared.conditions.equality.Equality.TheVariants.{Loose}
use Rattle.liquid_std.specs.meaning.conditions.Branches.{part_if}
use Rattle.liquid_std.specs.meaning.conditions.Conditions.{holds}
use Rattle.liquid_std.specs.meaning.iteration.Picked.{picked}
use Rattle.liquid_std.specs.meaning.marks.Held.{MarksIn}
use Rattle.liquid_std.specs.declared.blocks.StdProgressShape.{StdProgressShape}
use Rattle.liquid_std.specs.declared.blocks.StdProgressShape.TheVariants as progress
use Rattle.liquid_std.specs.meaning.Blocks.{begins_as, block_catches, block_count, block_takes, over_items}
use Rattle.liquid_laws.specs.meaning.superset.Images.{block_image, condition_image}

-- the image of a block's progress
abbrev pub progress_image : ProgressShape → StdProgressShape
progress_image (Once part) = progress.Once part
progress_image (Loop r) = progress.Rounds r

module _ {Reg : Type 0} (v : View Reg) where
  holds_kept : (c : ConditionShape) → holds Loose v (condition_image c) ≡ condition.holds v c
  holds_kept (Holds e) = refl
  holds_kept (Compares l comparison.Equal r) = refl
  holds_kept (Compares l comparison.Unequal r) = refl
  holds_kept (Compares l comparison.Less r) = refl
  holds_kept (Compares l comparison.Greater r) = refl
  holds_kept (Compares l comparison.AtMost r) = refl
  holds_kept (Compares l comparison.AtLeast r) = refl

  chosen_kept : (part : ℕ) (cs : List ConditionShape) → part_if Loose v part (map condition_image cs) ≡ condition.chosen v part cs
  chosen_kept part [] = refl
  chosen_kept part (c ∷ cs) =
      ap (λ r. ok_then r (λ it_holds. cond it_holds (Ok part) (part_if Loose v (part + 1) (map condition_image cs)))) (holds_kept c)
      ∙ ap (λ q. ok_then (condition.holds v c) (λ it_holds. cond it_holds (Ok part) q)) (chosen_kept (part + 1) cs)

  part_kept : (r : Result ℕ Refusal) → ok_then r (λ part. Ok (progress.Once part)) ≡ ok_then (ok_then r (λ part. Ok (Once part)))
      (λ p. Ok (progress_image p))
  part_kept (Ok part) = refl
  part_kept (Err refusal) = refl

  items_kept : (ts : List Tree) → over_items ts ≡ progress_image (library.over_items ts)
  items_kept [] = refl
  items_kept (t ∷ ts) = refl

  -- the items of a loop without options
  abbrev unpicked : Result (List Tree) Refusal → Result (List Tree) Refusal
  unpicked r =
      let none : Result (Option ℤ) Refusal = Ok None in
      ok_then r (λ ts. ok_then none (λ offset. ok_then none (λ limit. Ok (picked (unwrap_or offset (pos 0)) limit false ts))))

  loop_kept : (r : Result (List Tree) Refusal) → ok_then (unpicked r) (λ ts. Ok (over_items ts)) ≡ ok_then
      (ok_then r (λ ts. Ok (library.over_items ts))) (λ p. Ok (progress_image p))
  loop_kept (Ok ts) = ap (λ (p : StdProgressShape). Ok p) (items_kept ts)
  loop_kept (Err refusal) = refl

  pub begins_kept : (b : BlockShape) → begins_as (block_image b) v ≡ ok_then (library.begins_as b v) (λ p. Ok (progress_image p))
  begins_kept (If cs) = ap (λ r. ok_then r (λ part. Ok (progress.Once part))) (chosen_kept 0 cs) ∙ part_kept (condition.chosen v 0 cs)
  begins_kept (For name s) = loop_kept (items_of v s)
  begins_kept (Raw text) = refl

-- a turn with the image of its progress
abbrev pub turn_image : {Reg : Type 0} → Answered TurnShape ProgressShape Reg → Answered TurnShape StdProgressShape Reg
turn_image t = record { answer = t.answer; progress = progress_image t.progress; written = t.written }

pub takes_kept : {Reg : Type 0} (held : MarksIn Reg) (b : BlockShape) (p : ProgressShape) (v : View Reg)
    → block_takes held (block_image b) (progress_image p) v ≡ turn_image (library.block_takes b p v)
takes_kept held (If cs) (Once part) v = refl
takes_kept held (If cs) (Loop r) v = refl
takes_kept held (For name s) (Once part) v = refl
takes_kept held (For name s) (Loop r) v = refl
takes_kept held (Raw text) (Once part) v = refl
takes_kept held (Raw text) (Loop r) v = refl

pub counts_kept : (p : ProgressShape) → block_count (progress_image p) ≡ library.block_count p
counts_kept (Once part) = refl
counts_kept (Loop r) = refl

pub catches_kept : (b : BlockShape) (p : ProgressShape) (text : List ℕ)
    → block_catches (block_image b) (progress_image p) text ≡ progress_image p
catches_kept (If cs) p text = refl
catches_kept (For name s) p text = refl
catches_kept (Raw text) p bytes = refl
