-- The turns of a loop are the bodies of its items.
use Rattle.std.proofs.Common.{
  ◌≡◌,
  ℕ,
  suc,
  ◌+◌,
  List,
  [],
  ◌∷◌,
  length,
  Bool,
  true,
  false,
  cond,
  Option,
  None,
  Some,
  Ok,
  refl,
  ap,
  ◌∙◌,
  add-one,
}
use Rattle.liquid_error.specs.meaning.Refusal.{Refusal, ok_then}
use Rattle.liquid_value.specs.meaning.Tree.{Tree}
use Rattle.liquid_runtime.specs.declared.registers.Interrupt.{Interrupt}
use Rattle.liquid_runtime.specs.declared.registers.Interrupt.TheVariants.{Break, Continue}
use Rattle.liquid_runtime.specs.meaning.View.{View}
use Rattle.liquid_runtime.specs.meaning.Written.{with_written, written_of}
use Rattle.liquid_plugins.specs.meaning.Chain.{FilterMeaning}
use Rattle.liquid_plugins.specs.meaning.Turns.{TurnShape, end_turn}
use Rattle.liquid_template.specs.meaning.Actions.{and_then, asks, done, goes_on, part_at}
use Rattle.liquid_template.specs.meaning.Nodes.{Setting, answered, performed, played, started, turns, run_parts}
use Rattle.liquid_template.specs.meaning.Partials.{partials_at}
use Rattle.liquid_template.specs.meaning.Run.{Action, Run}
use Rattle.liquid_tags.specs.declared.blocks.BlockShape.TheVariants.{For}
use Rattle.liquid_tags.specs.declared.blocks.ProgressShape.{ProgressShape}
use Rattle.liquid_tags.specs.declared.blocks.ProgressShape.TheVariants.{Loop}
use Rattle.liquid_tags.specs.declared.for_block.series.SeriesShape.{SeriesShape}
use Rattle.liquid_tags.specs.laws.LoopRuns.{LoopRuns, after_body, cleared, item_run, leaves, loop_run}
use Rattle.liquid_tags.specs.meaning.Blocks.{block_nodes, over_items}
use Rattle.liquid_tags.specs.meaning.Library.{library}
use Rattle.liquid_tags.specs.meaning.Loops.{is_left, item_turn, rested}
use Rattle.liquid_tags.specs.meaning.Series.{items_of}

pub is_left_by : (place k : ℕ) (i : Option Interrupt) → place ≡ suc k → is_left place i ≡ leaves i
is_left_by place k None e = ap (λ n. is_left n None) e
is_left_by place k (Some Break) e = ap (λ n. is_left n (Some Break)) e
is_left_by place k (Some Continue) e = ap (λ n. is_left n (Some Continue)) e

module _ {Reg : Type 0} where
  -- what follows may be replaced by what does the same
  pub goes_on_same : (o : Option Refusal) (r : Run Reg) (f g : Action Reg) → ((w : View Reg) → f w ≡ g w) → goes_on o r f ≡ goes_on o r g
  goes_on_same None r f g e = ap (λ (q : Run Reg). goes_on None r (λ w. q)) (e r.view)
  goes_on_same (Some refusal) r f g e = refl

  -- what follows a checkpoint
  pub asked : (v : View Reg) {r q : Run Reg} → r ≡ q → and_then (asks v) (λ w. r) ≡ and_then (asks v) (λ w. q)
  asked v e = ap (λ (r : Run Reg). and_then (asks v) (λ w. r)) e

  -- whether it leaves or not
  pub either_done : (b : Bool) (w : View Reg) → cond b (done w) (done w) ≡ done w
  either_done true w = refl
  either_done false w = refl

  -- what a turn leaves
  abbrev pub left_by : ℕ → View Reg → View Reg
  left_by place v = with_written (written_of (rested place v)) v

  pub left_clear : (place k : ℕ) (v : View Reg) → place ≡ suc k → left_by place v ≡ cleared v
  left_clear place k v e = ap (λ q. left_by q v) e

module _ {Reg F T P B Q : Type 0} (s : Setting Reg F T P B Q) (partials : List ℕ → Action Reg) (name : List ℕ) (series : SeriesShape)
    (parts : List (Action Reg)) where
  abbrev loop_at : List Tree → ℕ → ℕ → ℕ → ProgressShape
  loop_at ts place size n = Loop (record { left = ts; place = place; size = size; turns = n })

  abbrev takes_turns : ℕ → ProgressShape → Action Reg
  takes_turns = turns s partials block_nodes (For name series) parts

  abbrev follows : TurnShape → ProgressShape → (ProgressShape → Action Reg) → Action Reg
  follows turn = answered s partials block_nodes (For name series) parts (Ok turn)

  -- an end, or another turn
  followed : (b : Bool) (turn : TurnShape) (p : ProgressShape) (rest : ProgressShape → Action Reg) (w : View Reg)
      → follows (cond b end_turn turn) p rest w ≡ cond b (done w) (follows turn p rest w)
  followed true turn p rest w = refl
  followed false turn p rest w = refl

  -- the turn of an item
  item_follows : (place size left n : ℕ) (t : Tree) (ts : List Tree) (w : View Reg)
      → follows (item_turn name place size (Some t)) (loop_at ts (place + 1) size n) (takes_turns left) w
      ≡ and_then (item_run s.fresh name size (part_at parts 0) place t w) (takes_turns left (loop_at ts (place + 1) size n))
  unfolding performed
  item_follows place size left n t ts w = refl

  -- a turn after a body
  after_turn : (place k : ℕ) (turn : TurnShape) (p : ProgressShape) (rest : ProgressShape → Action Reg) (v : View Reg) → place ≡ suc k
      → follows (cond (is_left place v.interrupt) end_turn turn) p rest (left_by place v) ≡ cond (leaves v.interrupt) (done (cleared v))
      (follows turn p rest (cleared v))
  after_turn place k turn p rest v is_later =
      followed (is_left place v.interrupt) turn p rest (left_by place v)
      ∙ ap (λ (b : Bool). cond b (done (left_by place v)) (follows turn p rest (left_by place v))) (is_left_by place k v.interrupt is_later)
      ∙ ap (λ (w : View Reg). cond (leaves v.interrupt) (done w) (follows turn p rest w)) (left_clear place k v is_later)

  -- the turns after a body
  turns_after : (ts : List Tree) (place k size n count : ℕ) (v : View Reg) → place ≡ suc k → count ≡ suc (length ts)
      → takes_turns count (loop_at ts place size n) v ≡ after_body s.fresh name size (part_at parts 0) place ts v
  unfolding turns
  turns_after [] place k size n count v is_later counted =
      ap (λ c. takes_turns c (loop_at [] place size n) v) counted
      ∙ asked v (after_turn place k end_turn (loop_at [] (place + 1) size n) (takes_turns 0) v is_later
      ∙ either_done (leaves v.interrupt) (cleared v))
  turns_after (t ∷ ts) place k size n count v is_later counted =
      ap (λ c. takes_turns c (loop_at (t ∷ ts) place size n) v) counted
      ∙ asked v (
      after_turn place k (item_turn name place size (Some t)) (loop_at ts (place + 1) size n) (takes_turns (length (t ∷ ts))) v is_later
      ∙ ap (λ (r : Run Reg). cond (leaves v.interrupt) (done (cleared v)) r)
      (item_follows place size (length (t ∷ ts)) n t ts (cleared v)
      ∙ goes_on_same (item_run s.fresh name size (part_at parts 0) place t (cleared v)).refusal
      (item_run s.fresh name size (part_at parts 0) place t (cleared v))
      (takes_turns (length (t ∷ ts)) (loop_at ts (place + 1) size n)) (after_body s.fresh name size (part_at parts 0) (place + 1) ts)
      (λ w. turns_after ts (place + 1) place size n (length (t ∷ ts)) w (add-one place) refl)))

  -- the first turn, and those after it
  first_turn : (size n : ℕ) (t : Tree) (ts : List Tree) (v : View Reg)
      → takes_turns (suc (length (t ∷ ts))) (loop_at (t ∷ ts) 0 size n) v ≡ loop_run s.fresh name size (part_at parts 0) t ts v
  unfolding turns
  first_turn size n t ts v =
      asked v (
      item_follows 0 size (length (t ∷ ts)) n t ts v
      ∙ goes_on_same (item_run s.fresh name size (part_at parts 0) 0 t v).refusal (item_run s.fresh name size (part_at parts 0) 0 t v)
      (takes_turns (length (t ∷ ts)) (loop_at ts 1 size n)) (after_body s.fresh name size (part_at parts 0) 1 ts)
      (λ w. turns_after ts 1 0 size n (length (t ∷ ts)) w refl refl))

  pub loop_played : (t : Tree) (ts : List Tree) (v : View Reg) → items_of v series ≡ Ok (t ∷ ts)
      → played s partials block_nodes (For name series) parts v ≡ loop_run s.fresh name (length (t ∷ ts)) (part_at parts 0) t ts v
  unfolding played
  loop_played t ts v e =
      let size = length (t ∷ ts) in
      ap (λ r. started s partials block_nodes (For name series) parts (ok_then r (λ us. Ok (over_items us))) v) e
      ∙ ap (λ c. takes_turns c (loop_at (t ∷ ts) 0 size (size + 1)) v) (add-one size)
      ∙ first_turn size (size + 1) t ts v

module _ {Reg F : Type 0} (fresh : Reg) (m : FilterMeaning F) where
  pub loop_runs : LoopRuns fresh m
  loop_runs finds depth name series ps =
      loop_played (library fresh m finds) (partials_at (library fresh m finds) depth) name series
      (run_parts (library fresh m finds) (partials_at (library fresh m finds) depth) ps)
