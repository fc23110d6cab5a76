-- Lists of calls on scopes: what each call returns, and what it leaves. Calls that found no memory are left out.
use Rattle.std.specs.Prelude.{◌≡◌, ℕ, List, [], ◌∷◌, Option, Result, ⊤, map}
use Rattle.liquid_error.specs.meaning.Refusal.{Refusal}
use Rattle.liquid_paths.specs.meaning.Walk.{Path}
use Rattle.liquid_value.specs.meaning.Tree.{Tree}
use Rattle.liquid_runtime.specs.meaning.Calls.{value_in}
use Rattle.liquid_runtime.specs.meaning.Frames.{FrameShape, Restore, beginning, restored_by}
use Rattle.liquid_runtime.specs.meaning.Lookup.{try_path, found}
use Rattle.liquid_runtime.specs.meaning.OpenFrames.{EndsFirst}
use Rattle.liquid_runtime.specs.meaning.Sets.{old_global, put_global, old_index, put_index}
use Rattle.liquid_runtime.specs.meaning.View.{View}

pub data Call : Type 0 where
  push : FrameShape → Call
  pop : Call
  set_global : List ℕ → Tree → Call
  set_index : List ℕ → Tree → Call
  try_get : Path → Call
  get : Path → Call
  get_index : List ℕ → Call

pub data Answer : Type 0 where
  nothing : Answer
  old : Result (Option Tree) Refusal → Answer
  value : Option Tree → Answer
  found_or_refused : Result Tree Refusal → Answer

module _ {Reg : Type 0} where
  -- what a call returns and leaves, by the view and by what the open frames restore when they end; `fresh` is the
  -- register's first value
  abbrev pub Makes : Reg → Call → View Reg → List (Restore Reg) → Answer → View Reg → List (Restore Reg) → Type 0
  Makes fresh (push frame) v rs answer w ss = (answer ≡ nothing) × (w ≡ beginning fresh frame v) × (ss ≡ restored_by frame v ∷ rs)
  Makes fresh pop v rs answer w ss = (answer ≡ nothing) × EndsFirst rs v ss w
  Makes fresh (set_global name t) v rs answer w ss = (answer ≡ old (old_global v name)) × (w ≡ put_global v name t) × (ss ≡ rs)
  Makes fresh (set_index name t) v rs answer w ss = (answer ≡ old (old_index v name)) × (w ≡ put_index v name t) × (ss ≡ rs)
  Makes fresh (try_get path) v rs answer w ss = (answer ≡ value (try_path v path)) × (w ≡ v) × (ss ≡ rs)
  Makes fresh (get path) v rs answer w ss = (answer ≡ found_or_refused (found v path)) × (w ≡ v) × (ss ≡ rs)
  Makes fresh (get_index name) v rs answer w ss = (answer ≡ value (value_in v.index name)) × (w ≡ v) × (ss ≡ rs)

  module _ {S : Type 0} (view : S → View Reg) (restores : S → List (Restore Reg)) (fresh : Reg) where
    -- the calls were made one after another, with these results, and with these scopes after each
    abbrev pub Made : S → List Call → List (Answer × S) → Type 0
    Made s [] [] = ⊤
    Made s [] (out ∷ outs) = ⊥
    Made s (call ∷ calls) [] = ⊥
    Made s (call ∷ calls) (out ∷ outs) = Makes fresh call (view s) (restores s) out.0 (view out.1) (restores out.1) × Made out.1 calls outs

  -- a result, with what the scopes then show and restore
  abbrev pub left_by : {S : Type 0} → (S → View Reg) → (S → List (Restore Reg)) → Answer × S → Answer × View Reg × List (Restore Reg)
  left_by view restores out = (out.0, view out.1, restores out.1)

  -- two kinds of scopes that show and restore the same give the same results for the same calls, and show and restore
  -- the same after each
  abbrev pub SameAnswers : {S T : Type 0} → Reg → (S → View Reg) → (S → List (Restore Reg)) → (T → View Reg) → (T → List (Restore Reg))
      → Type 0
  SameAnswers {S} {T} fresh view restores view' restores' =
      (s : S) (t : T) (calls : List Call) (outs : List (Answer × S)) (outs' : List (Answer × T)) → view s ≡ view' t
      → restores s ≡ restores' t
      → Made view restores fresh s calls outs → Made view' restores' fresh t calls outs'
      → map (left_by view restores) outs ≡ map (left_by view' restores') outs'
