-- The laws of Jekyll's language in a sandbox, over any filters and any store.
use Rattle.std.specs.Prelude.{◌≡◌, ℕ, List, Option}
use Rattle.liquid_runtime.specs.meaning.Maps.{Names}
use Rattle.liquid_runtime.specs.meaning.View.{View}
use Rattle.liquid_runtime.specs.meaning.Emptied.{emptied}
use Rattle.liquid_plugins.specs.meaning.Chain.{FilterMeaning}
use Rattle.liquid_plugins.specs.meaning.Nodes.{Nodes}
use Rattle.liquid_template.specs.laws.Isolation.{SameRun}
use Rattle.liquid_template.specs.meaning.Partials.{Found}
use Rattle.liquid_template.specs.meaning.Rendering.{sandboxed_run}
use Rattle.liquid_template.specs.meaning.Sandboxed.{HasGlobals, run_over_outside}
use Rattle.liquid_std.specs.meaning.marks.Held.{MarksIn}
use Rattle.jekyll_language.specs.meaning.Plugins.{BlockNode, TagNode}
use Rattle.jekyll_language.specs.meaning.Rendered.{jekyll}

module _ {Reg F : Type 0} (held : MarksIn Reg) (fresh : Reg) (m : FilterMeaning F) where
  -- under a sandboxed frame a template renders over any outside as over that outside emptied
  abbrev pub JekyllIsolated : Type 0
  JekyllIsolated =
      (finds : Option (Found F (TagNode F) BlockNode)) (names : Names) (name : Option (List ℕ))
      → (ns : Nodes F (TagNode F) BlockNode) (outside : View Reg) → HasGlobals outside
      → let run = sandboxed_run (jekyll held fresh m finds) names name ns in
      run outside ≡ run_over_outside outside (run (emptied fresh outside))

  -- so two outsides that agree on depth, leniency, index variables and name get the same text, refusal and writes
  abbrev pub JekyllAgrees : Type 0
  JekyllAgrees =
      (finds : Option (Found F (TagNode F) BlockNode)) (names : Names) (name : Option (List ℕ))
      → (ns : Nodes F (TagNode F) BlockNode) (o p : View Reg) → HasGlobals o → HasGlobals p
      → o.depth ≡ p.depth → o.lenient ≡ p.lenient → o.index ≡ p.index → o.name ≡ p.name
      → let run = sandboxed_run (jekyll held fresh m finds) names name ns in SameRun o p (run o) (run p)
