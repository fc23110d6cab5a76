-- How the bodies of a loop run, from the first one to the last.
use Rattle.std.specs.Prelude.{◌≡◌, ℕ, ◌+◌, List, [], ◌∷◌, true, false}
use Rattle.liquid_value.specs.meaning.Tree.{Tree}
use Rattle.liquid_runtime.specs.meaning.View.{View}
use Rattle.liquid_template.specs.meaning.Run.{Action}
use Rattle.liquid_tags.specs.laws.LoopRuns.{cleared, leaves}
use Rattle.liquid_laws.specs.meaning.loops.Ends.{Ends}

-- `run` is the run of the body of an item, by its place, which counts from 0
module _ {Reg : Type 0} (run : ℕ → Tree → Action Reg) where
  -- the items from a place on, the view before them, the texts of the bodies that run, in order, and the view after them:
  -- each body begins in the view that the one before it left, without the interrupt that it set. After a `break` no other
  -- body runs
  pub data Bodies : ℕ → List Tree → View Reg → List (List ℕ) → View Reg → Type 0 where
    no_more : (place : ℕ) (v : View Reg) → Bodies place [] v [] v
    leaves_off : (place : ℕ) (t : Tree) (ts : List Tree) (v w : View Reg) (text : List ℕ)
        → Ends (run place t v) text w → leaves w.interrupt ≡ true → Bodies place (t ∷ ts) v (text ∷ []) (cleared w)
    goes_on : (place : ℕ) (t : Tree) (ts : List Tree) (v w x : View Reg) (text : List ℕ) (texts : List (List ℕ))
        → Ends (run place t v) text w → leaves w.interrupt ≡ false → Bodies (place + 1) ts (cleared w) texts x
        → Bodies place (t ∷ ts) v (text ∷ texts) x
