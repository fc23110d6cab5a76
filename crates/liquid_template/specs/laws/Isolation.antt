-- What a sandboxed rendering does not depend on.
use Rattle.std.specs.Prelude.{◌≡◌, ℕ, List, Option}
use Rattle.liquid_runtime.specs.meaning.Maps.{Names}
use Rattle.liquid_runtime.specs.meaning.View.{View}
use Rattle.liquid_runtime.specs.meaning.Emptied.{emptied}
use Rattle.liquid_plugins.specs.meaning.Discreet.{Discreet}
use Rattle.liquid_plugins.specs.meaning.Nodes.{Nodes}
use Rattle.liquid_template.specs.meaning.Run.{Run}
use Rattle.liquid_template.specs.meaning.Nodes.{Setting}
use Rattle.liquid_template.specs.meaning.Rendering.{sandboxed_run}
use Rattle.liquid_template.specs.meaning.Sandboxed.{HasGlobals, run_over_outside}

-- two runs are the same one, over one outside and over the other
pub record SameRun {Reg : Type 0} (o p : View Reg) (r q : Run Reg) : Type 0 where
  pub run : Run Reg
  pub over_one : r ≡ run_over_outside o run
  pub over_other : q ≡ run_over_outside p run

module _ {Reg F T P B Q : Type 0} (s : Setting Reg F T P B Q) where
  -- under a sandboxed frame discreet nodes render over any outside with globals as over that outside emptied
  abbrev pub Isolated : Type 0
  Isolated =
      Discreet s.tags → Discreet s.blocks →
      (names : Names) (name : Option (List ℕ)) (ns : Nodes F T B) (outside : View Reg) → HasGlobals outside →
      sandboxed_run s names name ns outside ≡ run_over_outside outside (sandboxed_run s names name ns (emptied s.fresh outside))

  -- so over two such outsides that agree on depth, leniency, index variables and name, the text, the refusal and the
  -- writes are the same
  abbrev pub OutsidesAgree : Type 0
  OutsidesAgree =
      Discreet s.tags → Discreet s.blocks →
      (names : Names) (name : Option (List ℕ)) (ns : Nodes F T B) (o p : View Reg) → HasGlobals o → HasGlobals p →
      o.depth ≡ p.depth → o.lenient ≡ p.lenient → o.index ≡ p.index → o.name ≡ p.name →
      SameRun o p (sandboxed_run s names name ns o) (sandboxed_run s names name ns p)
