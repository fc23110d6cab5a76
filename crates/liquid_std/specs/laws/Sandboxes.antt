-- The laws of the standard language in a sandbox, over any filters and any store.
use Rattle.std.specs.Prelude.{◌≡◌, ℕ, List, Option}
use Rattle.liquid_runtime.specs.meaning.Maps.{Names}
use Rattle.liquid_runtime.specs.meaning.View.{View}
use Rattle.liquid_runtime.specs.meaning.Emptied.{emptied}
use Rattle.liquid_plugins.specs.meaning.Chain.{FilterMeaning}
use Rattle.liquid_plugins.specs.meaning.Nodes.{Nodes}
use Rattle.liquid_template.specs.laws.Isolation.{SameRun}
use Rattle.liquid_template.specs.meaning.Partials.{Found}
use Rattle.liquid_template.specs.meaning.Rendering.{sandboxed_run}
use Rattle.liquid_template.specs.meaning.Sandboxed.{HasGlobals, run_over_outside}
use Rattle.liquid_std.specs.meaning.marks.Held.{MarksIn}
use Rattle.liquid_std.specs.declared.tags.StdTagShape.{StdTagShape}
use Rattle.liquid_std.specs.declared.blocks.StdBlockShape.{StdBlockShape}
use Rattle.liquid_std.specs.meaning.Standard.{standard}

module _ {Reg F : Type 0} (held : MarksIn Reg) (fresh : Reg) (m : FilterMeaning F) where
  -- under a sandboxed frame a template renders over any outside as over that outside emptied
  abbrev pub StandardIsolated : Type 0
  StandardIsolated =
      (finds : Option (Found F (StdTagShape F) StdBlockShape)) (names : Names) (name : Option (List ℕ))
      → (ns : Nodes F (StdTagShape F) StdBlockShape) (outside : View Reg) → HasGlobals outside
      → let run = sandboxed_run (standard held fresh m finds) names name ns in
      run outside ≡ run_over_outside outside (run (emptied fresh outside))

  -- so two outsides that agree on depth, leniency, index variables and name get the same text, refusal and writes
  abbrev pub StandardAgrees : Type 0
  StandardAgrees =
      (finds : Option (Found F (StdTagShape F) StdBlockShape)) (names : Names) (name : Option (List ℕ))
      → (ns : Nodes F (StdTagShape F) StdBlockShape) (o p : View Reg) → HasGlobals o → HasGlobals p
      → o.depth ≡ p.depth → o.lenient ≡ p.lenient → o.index ≡ p.index → o.name ≡ p.name
      → let run = sandboxed_run (standard held fresh m finds) names name ns in SameRun o p (run o) (run p)
