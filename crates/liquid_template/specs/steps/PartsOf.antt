-- The shapes of a block's parts.
use Rattle.std.specs.Prelude.{List, map}
use Rattle.std.specs.declared.alloc.Global.{Global}
use Rattle.std.specs.declared.vec.Vec.{Vec}
use Rattle.liquid_plugins.specs.declared.tree.Node.{Node}
use Rattle.liquid_plugins.specs.meaning.Nodes.{Parts, parts_from}
use Rattle.liquid_plugins.specs.meaning.NodesOf.{nodes_of}

abbrev pub parts_of : {X N K F T B : Type 0} → (X → F) → (N → T) → (K → B) → List (Vec (Node X N K) Global) → Parts F T B
parts_of filter tag block parts = parts_from (map (λ ns. nodes_of filter tag block ns.items) parts)
