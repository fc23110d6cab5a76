-- The laws of the library in a sandbox, over any filters and any store.
use Rattle.std.specs.Prelude.{◌≡◌, ℕ, List, Option}
use Rattle.liquid_runtime.specs.meaning.Maps.{Names}
use Rattle.liquid_runtime.specs.meaning.View.{View}
use Rattle.liquid_runtime.specs.meaning.Emptied.{emptied}
use Rattle.liquid_plugins.specs.meaning.Chain.{FilterMeaning}
use Rattle.liquid_plugins.specs.meaning.Nodes.{Nodes}
use Rattle.liquid_template.specs.laws.Isolation.{SameRun}
use Rattle.liquid_template.specs.meaning.Partials.{Found}
use Rattle.liquid_template.specs.meaning.Rendering.{sandboxed_run}
use Rattle.liquid_template.specs.meaning.Sandboxed.{HasGlobals, run_over_outside}
use Rattle.liquid_tags.specs.declared.tags.TagShape.{TagShape}
use Rattle.liquid_tags.specs.declared.blocks.BlockShape.{BlockShape}
use Rattle.liquid_tags.specs.meaning.Library.{library}

module _ {Reg F : Type 0} (fresh : Reg) (m : FilterMeaning F) where
  -- under a sandboxed frame a template renders over any outside with globals as over that outside emptied
  abbrev pub LibraryIsolated : Type 0
  LibraryIsolated =
      (finds : Option (Found F (TagShape F) BlockShape)) (names : Names) (name : Option (List ℕ)) (ns : Nodes F (TagShape F) BlockShape)
      (outside : View Reg) → HasGlobals outside →
      sandboxed_run (library fresh m finds) names name ns outside ≡ run_over_outside outside
      (sandboxed_run (library fresh m finds) names name ns (emptied fresh outside))

  -- so two such outsides that agree on depth, leniency, index variables and name get the same text, refusal and writes
  abbrev pub LibraryAgrees : Type 0
  LibraryAgrees =
      (finds : Option (Found F (TagShape F) BlockShape)) (names : Names) (name : Option (List ℕ)) (ns : Nodes F (TagShape F) BlockShape)
      (o p : View Reg) → HasGlobals o → HasGlobals p →
      o.depth ≡ p.depth → o.lenient ≡ p.lenient → o.index ≡ p.index → o.name ≡ p.name →
      SameRun o p (sandboxed_run (library fresh m finds) names name ns o) (sandboxed_run (library fresh m finds) names name ns p)
