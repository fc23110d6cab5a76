-- What the functions of the cycle render and owe, by what contracts see of the types of filters, tags and blocks, of the scopes
-- and of the output.
use Rattle.std.specs.Prelude.{ℕ, ◌-◌, List, [], Bool, Option, String}
use Rattle.std.specs.declared.alloc.Global.{Global}
use Rattle.std.specs.declared.rc.Rc.{Rc}
use Rattle.std.specs.declared.vec.Vec.{Vec}
use Rattle.liquid_runtime.specs.meaning.View.{View}
use Rattle.liquid_runtime.specs.meaning.Frames.{FrameShape, Restore}
use Rattle.liquid_plugins.specs.declared.tree.Node.{Node}
use Rattle.liquid_plugins.specs.meaning.NodesOf.{node_of, nodes_of}
use Rattle.liquid_template.specs.declared.start.Going.{Going}
use Rattle.liquid_template.specs.declared.template.Template.{Template}
use Rattle.liquid_template.specs.declared.turn.Step.{Step}
use Rattle.liquid_template.specs.meaning.Run.{Action}
use Rattle.liquid_template.specs.meaning.Nodes.{run_parts}
use Rattle.liquid_template.specs.meaning.Partials.{Found, partials_at}
use Rattle.liquid_template.specs.meaning.Rendering.{nodes_run}
use Rattle.liquid_template.specs.meaning.Runs.{node_run, tag_run, block_run, part_run}
use Rattle.liquid_template.specs.meaning.OfTypes.{FilterType, NodeType, setting_of}
use Rattle.liquid_template.specs.meaning.TemplateOf.{template_nodes}
use Rattle.liquid_template.specs.steps.Going.{PartialOpens, Takes, Turned}
use Rattle.liquid_template.specs.steps.NodeTurns.{Answer}
use Rattle.liquid_template.specs.steps.PartsOf.{parts_of}
use Rattle.liquid_template.specs.steps.Place.{Place, target, text_of}

module _ {A X N K Reg F T P B Q : Type 0} (fresh : Reg) (filter : FilterType X F) (tag : NodeType N T P Reg) (block : NodeType K B Q Reg)
    (finds : A → Found F T B) (store : Option A) (depth : ℕ) where
  -- the run of nodes, of one node, of a tag, of a block, of one of its parts, and of a partial in it
  abbrev pub list_of : List (Node X N K) → Action Reg
  list_of nodes = nodes_run (setting_of fresh filter tag block finds store) depth (nodes_of filter.shape tag.shape block.shape nodes)

  abbrev pub one_of : Node X N K → Action Reg
  one_of node = node_run (setting_of fresh filter tag block finds store) depth (node_of filter.shape tag.shape block.shape node)

  abbrev pub tag_of : N → Action Reg
  tag_of node = tag_run (setting_of fresh filter tag block finds store) depth (tag.shape node)

  abbrev pub block_of : K → List (Vec (Node X N K) Global) → Action Reg
  block_of node parts =
      block_run (setting_of fresh filter tag block finds store) depth (block.shape node) (parts_of filter.shape tag.shape block.shape parts)

  abbrev pub part_of : List (Vec (Node X N K) Global) → ℕ → Action Reg
  part_of parts place =
      part_run (setting_of fresh filter tag block finds store) depth (parts_of filter.shape tag.shape block.shape parts) place

  abbrev pub partial_of : Template X N K → Action Reg
  partial_of template =
      nodes_run (setting_of fresh filter tag block finds store) (depth - 1) (template_nodes filter.shape tag.shape block.shape template)

  module _ {S O : Type 0} (view : S → View Reg) (place : O → Place) where
    -- a tag's turn, and a block's, that was taken
    abbrev pub TagTakes : {R : Type 0} → (R → P) → N → Going R → Going R → S → S → O → O → Answer → Bool → Type 0
    TagTakes shape node going gone scopes left before after answer result =
        Takes (setting_of fresh filter tag block finds store) depth tag.means (tag.shape node) []
        (shape going.progress) (shape gone.progress) (view scopes) (view left) (target (place before)) (target (place after)) answer result

    abbrev pub BlockTakes : {R : Type 0} → (R → Q) → K → List (Vec (Node X N K) Global) → Going R → Going R → S → S → O → O
        → Answer → Bool → Type 0
    BlockTakes shape node parts going gone scopes left before after answer result =
        Takes (setting_of fresh filter tag block finds store) depth block.means (block.shape node)
        (run_parts (setting_of fresh filter tag block finds store)
        (partials_at (setting_of fresh filter tag block finds store) depth) (parts_of filter.shape tag.shape block.shape parts))
        (shape going.progress) (shape gone.progress) (view scopes) (view left) (target (place before)) (target (place after)) answer result

  -- a partial is open under its frame, or the answer is a refusal
  abbrev pub PartialOut : {S Z : Type 0} → (S → View Reg) → (S → List (Restore Reg)) → List ℕ → FrameShape → Option (String Global)
      → S → S → Answer → Option (String Global) → Option (Rc (Template X N K) Z) → Type 0
  PartialOut view restores name frame trace scopes left answer kept result =
      PartialOpens (setting_of fresh filter tag block finds store) depth
      (λ template. template_nodes filter.shape tag.shape block.shape template.value) name frame (text_of trace)
      (view scopes) (view left) (restores scopes) (restores left) answer (text_of kept) result

module _ {A X N K Reg F T P B Q : Type 0} (fresh : Reg) (filter : FilterType X F) (tag : NodeType N T P Reg) (block : NodeType K B Q Reg)
    (finds : A → Found F T B) where
  -- a turn of a tag or a block was taken
  abbrev pub TurnOut : {S O M C G R : Type 0} → (S → Option A) → (S → View Reg) → (S → List (Restore Reg)) → (O → Place)
      → NodeType M C G Reg → (R → G) → ℕ → M → Going R → Going R → S → S → O → O → Answer → Step X N K → Type 0
  TurnOut store view restores place kind shape depth node going gone scopes left before after answer step =
      Turned (setting_of fresh filter tag block finds (store scopes)) depth kind.means (kind.shape node)
      (shape going.progress) (shape gone.progress) (view scopes) (view left) (target (place before)) (target (place after))
      filter.shape tag.shape block.shape (text_of gone.trace) (restores scopes) (restores left) answer step
