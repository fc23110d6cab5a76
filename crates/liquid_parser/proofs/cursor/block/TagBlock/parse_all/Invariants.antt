use Rattle.std.proofs.Common.{◌≡◌, false, true, [], length}
use Rattle.liquid_plugins.specs.meaning.NodesOf.{shapes_of}
use Rattle.liquid_parser.specs.meaning.BlockReading.{Passes}
use Rattle.liquid_parser.specs.meaning.Plugins.{language_of}
use Rattle.liquid_parser.proofs.AllLemmas.{Onward}
use Rattle.liquid_parser.proofs.cursor.block.TagBlock.parse_all.Given as goal

abbrev pub decreases-nodes : goal.decreases-nodes
decreases-nodes g l = length l.self.rest.now

-- the cursor has moved on, and so far all were read; that of a closed block stays
abbrev pub invariant-nodes : goal.invariant-nodes
invariant-nodes g l =
    Passes l.fn.self l.self
    × (l.fn.self.is_closed ≡ false → Onward (language_of g.F.ParseFilter.makes g.T.ParseTag.gives g.B.ParseBlock.block l.language)
    l.fn.self.source.now l.fn.self.end_name.now 1 l.fn.self.rest.now l.self.is_closed l.self.rest.now
    (shapes_of g.F.Filter.Meant.shape g.T.Node.Meant.shape g.B.Node.Meant.shape l.nodes.items))
    × (l.fn.self.is_closed ≡ true → (l.nodes.items ≡ []) × (l.self ≡ l.fn.self))
