-- What an isolated rendering does not depend on.
use Rattle.std.specs.Prelude.{◌≡◌, ℕ, List, Option}
use Rattle.liquid_runtime.specs.meaning.Maps.{Names}
use Rattle.liquid_runtime.specs.meaning.View.{View}
use Rattle.liquid_runtime.specs.meaning.Emptied.{emptied}
use Rattle.liquid_plugins.specs.meaning.Nodes.{Nodes}
use Rattle.liquid_template.specs.meaning.Run.{Run}
use Rattle.liquid_template.specs.meaning.Nodes.{Setting}
use Rattle.liquid_template.specs.meaning.Rendering.{isolated_run}
use Rattle.liquid_template.specs.meaning.Isolated.{run_given_back}

-- two runs are the same one, over one outside and over the other
pub record SameIsolatedRun {Reg : Type 0} (o p : View Reg) (r q : Run Reg) : Type 0 where
  pub run : Run Reg
  pub over_one : r ≡ run_given_back o run
  pub over_other : q ≡ run_given_back p run

module _ {Reg F T P B Q : Type 0} (s : Setting Reg F T P B Q) where
  -- under an isolated frame any nodes render over any outside as over that outside emptied
  abbrev pub IsolatedFromOutside : Type 0
  IsolatedFromOutside =
      (names : Names) (name : Option (List ℕ)) (ns : Nodes F T B) (outside : View Reg) →
      isolated_run s names name ns outside ≡ run_given_back outside (isolated_run s names name ns (emptied s.fresh outside))

  -- so over two outsides that agree on depth, leniency, index variables and name, the text, the refusal and the writes
  -- are the same
  abbrev pub IsolatedOutsidesAgree : Type 0
  IsolatedOutsidesAgree =
      (names : Names) (name : Option (List ℕ)) (ns : Nodes F T B) (o p : View Reg) →
      o.depth ≡ p.depth → o.lenient ≡ p.lenient → o.index ≡ p.index → o.name ≡ p.name →
      SameIsolatedRun o p (isolated_run s names name ns o) (isolated_run s names name ns p)
