-- The result of rendering a template.
use Rattle.std.specs.Prelude.{ℕ, List, Option, None}
use Rattle.liquid_runtime.specs.meaning.Maps.{Names}
use Rattle.liquid_runtime.specs.meaning.Frames.{sandboxed_frame, isolated_frame}
use Rattle.liquid_plugins.specs.meaning.Nodes.{Nodes}
use Rattle.liquid_template.specs.meaning.Run.{Action}
use Rattle.liquid_template.specs.meaning.Actions.{under}
use Rattle.liquid_template.specs.meaning.Nodes.{Setting, run_nodes}
use Rattle.liquid_template.specs.meaning.Partials.{partials_at}

module _ {Reg F T P B Q : Type 0} (s : Setting Reg F T P B Q) where
  -- nodes, where this many partials may still be nested
  abbrev pub nodes_run : ℕ → Nodes F T B → Action Reg
  nodes_run depth ns = run_nodes s (partials_at s depth) ns

  -- a template's nodes, with the depth of the view
  abbrev pub template_run : Nodes F T B → Action Reg
  template_run ns v = nodes_run v.depth ns v

  -- the same under a sandboxed frame
  abbrev pub sandboxed_run : Names → Option (List ℕ) → Nodes F T B → Action Reg
  sandboxed_run names name ns = under s.fresh (sandboxed_frame names name) None (template_run ns)

  -- the same under an isolated frame
  abbrev pub isolated_run : Names → Option (List ℕ) → Nodes F T B → Action Reg
  isolated_run names name ns = under s.fresh (isolated_frame names name) None (template_run ns)
