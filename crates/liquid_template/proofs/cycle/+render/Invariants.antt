use Rattle.std.proofs.Common.{◌≡◌, ◌+◌, ◌*◌, ◌-◌, [], drop, Result, option_map}
use Rattle.std.specs.Prelude.{IsOk}
use Rattle.liquid_error.specs.declared.error.Error.{Error}
use Rattle.liquid_runtime.specs.meaning.View.{View}
use Rattle.liquid_plugins.specs.meaning.NodesOf.{node_of, nodes_of}
use Rattle.liquid_plugins.specs.meaning.Size.{size_node, size_nodes, size_parts}
use Rattle.liquid_template.specs.meaning.Nodes.{turns, run_parts}
use Rattle.liquid_template.specs.meaning.Partials.{partials_at}
use Rattle.liquid_template.specs.meaning.Rendering.{nodes_run}
use Rattle.liquid_template.specs.meaning.Output.{Output}
use Rattle.liquid_template.specs.meaning.Outcome.{RendersWithin}
use Rattle.liquid_template.specs.meaning.Opens.{OpenNone}
use Rattle.liquid_template.specs.meaning.Runs.{setting, tag_run, block_run}
use Rattle.liquid_template.specs.meaning.TemplateOf.{template_nodes}
use Rattle.liquid_template.specs.steps.PartsOf.{parts_of}
use Rattle.liquid_template.specs.steps.Bound.{partials_size, work}
use Rattle.liquid_template.specs.steps.Keeps.{Keeps}
use Rattle.liquid_template.specs.steps.Place.{target, around}
use Rattle.liquid_template.proofs.cycle.+render.Given as goal

abbrev pub decreases-render_list : goal.decreases-render_list
decreases-render_list g l =
    8 * work l.depth (partials_size (option_map g.S.Store.PartialStore.finds (g.S.Runtime.store l.scopes.now)))
    (size_nodes (nodes_of g.X.Meant.shape g.T.Meant.shape g.B.Meant.shape l.nodes.now)) + 3

abbrev pub decreases-render_node : goal.decreases-render_node
decreases-render_node g l =
    8 * work l.depth (partials_size (option_map g.S.Store.PartialStore.finds (g.S.Runtime.store l.scopes.now)))
    (size_node (node_of g.X.Meant.shape g.T.Meant.shape g.B.Meant.shape l.node.now)) + 2

abbrev pub decreases-render_tag : goal.decreases-render_tag
decreases-render_tag g l = 8 * work l.depth (partials_size (option_map g.S.Store.PartialStore.finds (g.S.Runtime.store l.scopes.now))) 0 + 7

abbrev pub decreases-render_block : goal.decreases-render_block
decreases-render_block g l =
    8 * work l.depth (partials_size (option_map g.S.Store.PartialStore.finds (g.S.Runtime.store l.scopes.now)))
    (size_parts (parts_of g.X.Meant.shape g.T.Meant.shape g.B.Meant.shape l.parts.now)) + 7

abbrev pub decreases-render_part : goal.decreases-render_part
decreases-render_part g l =
    8 * work l.depth (partials_size (option_map g.S.Store.PartialStore.finds (g.S.Runtime.store l.scopes.now)))
    (size_parts (parts_of g.X.Meant.shape g.T.Meant.shape g.B.Meant.shape l.parts.now)) + 4

abbrev pub decreases-render_partial : goal.decreases-render_partial
decreases-render_partial g l =
    8 * work (l.depth - 1) (partials_size (option_map g.S.Store.PartialStore.finds (g.S.Runtime.store l.scopes.now)))
    (size_nodes (template_nodes g.X.Meant.shape g.T.Meant.shape g.B.Meant.shape l.template.value)) + 4

abbrev pub decreases-take_tag : goal.decreases-take_tag
decreases-take_tag g l = 8 * work l.depth (partials_size (option_map g.S.Store.PartialStore.finds (g.S.Runtime.store l.scopes.now))) 0 + 6

abbrev pub decreases-take_block : goal.decreases-take_block
decreases-take_block g l =
    8 * work l.depth (partials_size (option_map g.S.Store.PartialStore.finds (g.S.Runtime.store l.scopes.now)))
    (size_parts (parts_of g.X.Meant.shape g.T.Meant.shape g.B.Meant.shape l.parts.now)) + 6

abbrev pub invariant-render_list-loop-node : goal.invariant-render_list-loop-node
invariant-render_list-loop-node g l = record {
  owes : g.S.Runtime.restores l.scopes ≡ g.S.Runtime.restores l.fn.scopes;
  keeps : Keeps (OpenNone g.T.Renderable.means g.B.Renderable.means) g.S.Runtime.store g.S.Runtime.lent g.S.Store.PartialStore.finds l.depth
      l.fn.scopes l.scopes;
  answer : IsOk l.answer;
  around : around (g.O.Out.place l.out) ≡ around (g.O.Out.place l.fn.out);
  renders : (after : Output) (left : View g.row.S-Register-Shape.Denot) (answer : Result (Unit {0}) Error)
      → RendersWithin (nodes_run (setting g.S.Register.Fresh.fresh g.X.Filter.means g.T.Renderable.means g.B.Renderable.means
      (option_map g.S.Store.PartialStore.finds (g.S.Runtime.store l.fn.scopes))) l.depth
      (nodes_of g.X.Meant.shape g.T.Meant.shape g.B.Meant.shape (drop l.node-index l.nodes)) (g.S.Runtime.view l.scopes))
      (g.S.Runtime.view l.scopes) (target (g.O.Out.place l.out)) after left answer
      → RendersWithin (nodes_run (setting g.S.Register.Fresh.fresh g.X.Filter.means g.T.Renderable.means g.B.Renderable.means
      (option_map g.S.Store.PartialStore.finds (g.S.Runtime.store l.fn.scopes))) l.depth
      (nodes_of g.X.Meant.shape g.T.Meant.shape g.B.Meant.shape l.nodes) (g.S.Runtime.view l.fn.scopes)) (g.S.Runtime.view l.fn.scopes)
      (target (g.O.Out.place l.fn.out)) after left answer;
}

abbrev pub invariant-render_tag-loop : goal.invariant-render_tag-loop
invariant-render_tag-loop g l = record {
  owes : g.S.Runtime.restores l.scopes ≡ g.S.Runtime.restores l.fn.scopes;
  keeps : Keeps (OpenNone g.T.Renderable.means g.B.Renderable.means) g.S.Runtime.store g.S.Runtime.lent g.S.Store.PartialStore.finds l.depth
      l.fn.scopes l.scopes;
  answer : IsOk l.answer;
  around : around (g.O.Out.place l.out) ≡ around (g.O.Out.place l.fn.out);
  renders : (after : Output) (left : View g.row.S-Register-Shape.Denot) (answer : Result (Unit {0}) Error)
      → RendersWithin (turns (setting g.S.Register.Fresh.fresh g.X.Filter.means g.T.Renderable.means g.B.Renderable.means
      (option_map g.S.Store.PartialStore.finds (g.S.Runtime.store l.fn.scopes)))
      (partials_at (setting g.S.Register.Fresh.fresh g.X.Filter.means g.T.Renderable.means g.B.Renderable.means
      (option_map g.S.Store.PartialStore.finds (g.S.Runtime.store l.fn.scopes))) l.depth) g.T.Renderable.means (g.T.Meant.shape l.tag) []
      (l.end - l.counter) (g.T.Progress.Meant.shape l.going.progress) (g.S.Runtime.view l.scopes)) (g.S.Runtime.view l.scopes)
      (target (g.O.Out.place l.out)) after left answer
      → RendersWithin (tag_run (setting g.S.Register.Fresh.fresh g.X.Filter.means g.T.Renderable.means g.B.Renderable.means
      (option_map g.S.Store.PartialStore.finds (g.S.Runtime.store l.fn.scopes))) l.depth (g.T.Meant.shape l.tag)
      (g.S.Runtime.view l.fn.scopes)) (g.S.Runtime.view l.fn.scopes) (target (g.O.Out.place l.fn.out)) after left answer;
}

abbrev pub invariant-render_block-loop : goal.invariant-render_block-loop
invariant-render_block-loop g l = record {
  owes : g.S.Runtime.restores l.scopes ≡ g.S.Runtime.restores l.fn.scopes;
  keeps : Keeps (OpenNone g.T.Renderable.means g.B.Renderable.means) g.S.Runtime.store g.S.Runtime.lent g.S.Store.PartialStore.finds l.depth
      l.fn.scopes l.scopes;
  answer : IsOk l.answer;
  around : around (g.O.Out.place l.out) ≡ around (g.O.Out.place l.fn.out);
  renders : (after : Output) (left : View g.row.S-Register-Shape.Denot) (answer : Result (Unit {0}) Error)
      → RendersWithin (turns (setting g.S.Register.Fresh.fresh g.X.Filter.means g.T.Renderable.means g.B.Renderable.means
      (option_map g.S.Store.PartialStore.finds (g.S.Runtime.store l.fn.scopes)))
      (partials_at (setting g.S.Register.Fresh.fresh g.X.Filter.means g.T.Renderable.means g.B.Renderable.means
      (option_map g.S.Store.PartialStore.finds (g.S.Runtime.store l.fn.scopes))) l.depth) g.B.Renderable.means (g.B.Meant.shape l.block)
      (run_parts (setting g.S.Register.Fresh.fresh g.X.Filter.means g.T.Renderable.means g.B.Renderable.means
      (option_map g.S.Store.PartialStore.finds (g.S.Runtime.store l.fn.scopes)))
      (partials_at (setting g.S.Register.Fresh.fresh g.X.Filter.means g.T.Renderable.means g.B.Renderable.means
      (option_map g.S.Store.PartialStore.finds (g.S.Runtime.store l.fn.scopes))) l.depth)
      (parts_of g.X.Meant.shape g.T.Meant.shape g.B.Meant.shape l.parts)) (l.end - l.counter)
      (g.B.Progress.Meant.shape l.going.value.progress) (g.S.Runtime.view l.scopes)) (g.S.Runtime.view l.scopes)
      (target (g.O.Out.place l.out)) after left answer
      → RendersWithin (block_run (setting g.S.Register.Fresh.fresh g.X.Filter.means g.T.Renderable.means g.B.Renderable.means
      (option_map g.S.Store.PartialStore.finds (g.S.Runtime.store l.fn.scopes))) l.depth (g.B.Meant.shape l.block)
      (parts_of g.X.Meant.shape g.T.Meant.shape g.B.Meant.shape l.parts) (g.S.Runtime.view l.fn.scopes)) (g.S.Runtime.view l.fn.scopes)
      (target (g.O.Out.place l.fn.out)) after left answer;
}
