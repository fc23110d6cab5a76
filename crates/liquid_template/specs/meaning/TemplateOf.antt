-- A template as plain data.
use Rattle.std.specs.Prelude.{List}
use Rattle.liquid_plugins.specs.declared.tree.Node.{Node}
use Rattle.liquid_plugins.specs.meaning.Nodes.{Nodes}
use Rattle.liquid_plugins.specs.meaning.NodesOf.{nodes_of}
use Rattle.liquid_template.specs.declared.template.Template.{Template}

-- its nodes as they are
abbrev pub own_nodes : {X N K : Type 0} → Template X N K → List (Node X N K)
own_nodes template = template.nodes.items

-- the shapes of its nodes, from the shapes of what plug-ins made
abbrev pub template_nodes : {X N K F T B : Type 0} → (X → F) → (N → T) → (K → B) → Template X N K → Nodes F T B
template_nodes filter tag block template = nodes_of filter tag block (own_nodes template)
