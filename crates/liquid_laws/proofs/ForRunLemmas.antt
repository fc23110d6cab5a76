-- The turns of a `for` are the bodies of its items.
use Rattle.std.proofs.Common.{◌≡◌, ℕ, suc, ◌+◌, List, [], ◌∷◌, length, Bool, true, false}
use Rattle.std.proofs.Common.{cond, None, Some, Result, Ok, Err, refl, ap, ◌∙◌, add-one}
use Rattle.liquid_error.specs.meaning.Refusal.{Refusal, ok_then}
use Rattle.liquid_value.specs.meaning.Tree.{Tree}
use Rattle.liquid_runtime.specs.meaning.Frames.{no_frame}
use Rattle.liquid_runtime.specs.meaning.View.{View}
use Rattle.liquid_plugins.specs.meaning.Turns.{TurnShape, end_turn}
use Rattle.liquid_template.specs.meaning.Actions.{and_then, done, part_at, under}
use Rattle.liquid_template.specs.meaning.Nodes.{Setting, answered, performed, played, started, turns}
use Rattle.liquid_template.specs.meaning.Run.{Action, Run}
use Rattle.liquid_tags.specs.laws.LoopRuns.{after_body, cleared, item_run, leaves, loop_run}
use Rattle.liquid_tags.specs.meaning.Loops.{is_left, item_turn}
use Rattle.liquid_std.specs.declared.iteration.loops.LoopShape.{LoopShape}
use Rattle.liquid_std.specs.declared.iteration.scalars.OverScalar.{OverScalar}
use Rattle.liquid_std.specs.meaning.iteration.Loops.{picked_items}
use Rattle.liquid_std.specs.meaning.marks.Held.{MarksIn}
use Rattle.liquid_std.specs.declared.blocks.StdBlockShape.TheVariants.{For}
use Rattle.liquid_std.specs.declared.blocks.StdProgressShape.{StdProgressShape}
use Rattle.liquid_std.specs.declared.blocks.StdProgressShape.TheVariants.{Once, Rounds}
use Rattle.liquid_std.specs.meaning.Blocks.{block_nodes, over_items}
use Rattle.liquid_laws.specs.laws.loops.ForLoops.{TakesElse}
use Rattle.liquid_laws.specs.laws.loops.ForRuns.{for_run, part_alone}
use Rattle.liquid_laws.proofs.EndsLemmas.{then_done, then_same, unframed}
use Rattle.liquid_tags.proofs.LoopRunLemmas.{asked, either_done, is_left_by, left_by, left_clear}

module _ {Reg F T P B Q : Type 0} (s : Setting Reg F T P B Q) (partials : List ℕ → Action Reg) (held : MarksIn Reg)
    (over : OverScalar) (l : LoopShape) (parts : List (Action Reg)) where
  abbrev loop_at : List Tree → ℕ → ℕ → ℕ → StdProgressShape
  loop_at ts place size n = Rounds (record { left = ts; place = place; size = size; turns = n })

  abbrev takes_turns : ℕ → StdProgressShape → Action Reg
  takes_turns = turns s partials (block_nodes held) (For over l) parts

  abbrev follows : TurnShape → StdProgressShape → (StdProgressShape → Action Reg) → Action Reg
  follows turn = answered s partials (block_nodes held) (For over l) parts (Ok turn)

  -- the run of the item at a place
  abbrev item_at : ℕ → ℕ → Tree → Action Reg
  item_at size = item_run s.fresh l.name size (part_at parts 0)

  abbrev rest_at : ℕ → ℕ → List Tree → Action Reg
  rest_at size = after_body s.fresh l.name size (part_at parts 0)

  -- an end, or another turn
  followed : (b : Bool) (turn : TurnShape) (p : StdProgressShape) (rest : StdProgressShape → Action Reg) (w : View Reg)
      → follows (cond b end_turn turn) p rest w ≡ cond b (done w) (follows turn p rest w)
  followed true turn p rest w = refl
  followed false turn p rest w = refl

  -- the turn of an item
  item_follows : (place size left n : ℕ) (t : Tree) (ts : List Tree) (w : View Reg)
      → follows (item_turn l.name place size (Some t)) (loop_at ts (place + 1) size n) (takes_turns left) w
      ≡ and_then (item_at size place t w) (takes_turns left (loop_at ts (place + 1) size n))
  unfolding performed
  item_follows place size left n t ts w = refl

  -- a turn after a body
  after_turn : (place k : ℕ) (turn : TurnShape) (p : StdProgressShape) (rest : StdProgressShape → Action Reg) (v : View Reg) → place ≡ suc k
      → follows (cond (is_left place v.interrupt) end_turn turn) p rest (left_by place v) ≡ cond (leaves v.interrupt) (done (cleared v))
      (follows turn p rest (cleared v))
  after_turn place k turn p rest v is_later =
      followed (is_left place v.interrupt) turn p rest (left_by place v)
      ∙ ap (λ (b : Bool). cond b (done (left_by place v)) (follows turn p rest (left_by place v))) (is_left_by place k v.interrupt is_later)
      ∙ ap (λ (w : View Reg). cond (leaves v.interrupt) (done w) (follows turn p rest w)) (left_clear place k v is_later)

  -- the turns after a body
  turns_after : (ts : List Tree) (place k size n count : ℕ) (v : View Reg) → place ≡ suc k → count ≡ suc (length ts)
      → takes_turns count (loop_at ts place size n) v ≡ rest_at size place ts v
  unfolding turns
  turns_after [] place k size n count v is_later counted =
      ap (λ c. takes_turns c (loop_at [] place size n) v) counted
      ∙ asked v (after_turn place k end_turn (loop_at [] (place + 1) size n) (takes_turns 0) v is_later
      ∙ either_done (leaves v.interrupt) (cleared v))
  turns_after (t ∷ ts) place k size n count v is_later counted =
      ap (λ c. takes_turns c (loop_at (t ∷ ts) place size n) v) counted
      ∙ asked v (
      after_turn place k (item_turn l.name place size (Some t)) (loop_at ts (place + 1) size n) (takes_turns (length (t ∷ ts))) v is_later
      ∙ ap (λ (r : Run Reg). cond (leaves v.interrupt) (done (cleared v)) r)
      (item_follows place size (length (t ∷ ts)) n t ts (cleared v)
      ∙ then_same (item_at size place t (cleared v))
      (takes_turns (length (t ∷ ts)) (loop_at ts (place + 1) size n)) (rest_at size (place + 1) ts)
      (λ w. turns_after ts (place + 1) place size n (length (t ∷ ts)) w (add-one place) refl)))

  -- the first turn, and those after it
  first_turn : (size n : ℕ) (t : Tree) (ts : List Tree) (v : View Reg)
      → takes_turns (suc (length (t ∷ ts))) (loop_at (t ∷ ts) 0 size n) v ≡ loop_run s.fresh l.name size (part_at parts 0) t ts v
  unfolding turns
  first_turn size n t ts v =
      asked v (
      item_follows 0 size (length (t ∷ ts)) n t ts v
      ∙ then_same (item_at size 0 t v) (takes_turns (length (t ∷ ts)) (loop_at ts 1 size n)) (rest_at size 1 ts)
      (λ w. turns_after ts 1 0 size n (length (t ∷ ts)) w refl refl))

  -- the second part alone
  second_part : (v : View Reg) → takes_turns 1 (Once 1) v ≡ part_alone (part_at parts 1) v
  unfolding turns performed
  second_part v =
      asked v (then_done (under s.fresh no_frame None (part_at parts 1) v) ∙ unframed s.fresh (part_at parts 1) v)

  -- what follows from the items
  started_over : (items : Result (List Tree) Refusal) (v : View Reg)
      → started s partials (block_nodes held) (For over l) parts (ok_then items (λ ts. Ok (over_items ts))) v
      ≡ for_run s.fresh l.name (part_at parts 0) (part_at parts 1) items v
  started_over (Err refusal) v = refl
  started_over (Ok []) v = second_part v
  started_over (Ok (t ∷ ts)) v =
      let size = length (t ∷ ts) in
      ap (λ c. takes_turns c (loop_at (t ∷ ts) 0 size (size + 1)) v) (add-one size) ∙ first_turn size (size + 1) t ts v

  pub for_played : (v : View Reg)
      → played s partials (block_nodes held) (For over l) parts v
      ≡ for_run s.fresh l.name (part_at parts 0) (part_at parts 1) (picked_items over v l) v
  unfolding played
  for_played v = started_over (picked_items over v l) v

over_none : (items : Result (List Tree) Refusal) → ok_then items (λ ts. Ok (over_items ts)) ≡ Ok (Once 1) → items ≡ Ok []
over_none (Err refusal) e = cc e
over_none (Ok []) e = refl
over_none (Ok (t ∷ ts)) e = cc e

pub takes_else : {Reg : Type 0} → TakesElse Reg
takes_else over v l =
    (over_none (picked_items over v l), ap (λ (items : Result (List Tree) Refusal). ok_then items (λ ts. Ok (over_items ts))))
