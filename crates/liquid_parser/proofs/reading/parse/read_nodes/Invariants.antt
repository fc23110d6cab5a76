use denote.Text.{Utf8}
use denote.Shadow.{shadow}
use Rattle.std.proofs.Common.{length}
use Rattle.liquid_parser.specs.meaning.Plugins.{language_of}
use Rattle.liquid_parser.specs.steps.Views.{state_view}
use Rattle.liquid_parser.proofs.ReadingSteps.{Goes}
use Rattle.liquid_parser.proofs.reading.parse.read_nodes.Given as goal

abbrev pub decreases-elements : goal.decreases-elements
decreases-elements g l = length l.rest

-- what is left of the text is text, and what came before it leads to the state
abbrev pub invariant-elements : goal.invariant-elements
invariant-elements g l =
    shadow (Utf8 l.rest) × Goes (language_of g.F.ParseFilter.makes g.T.ParseTag.gives g.B.ParseBlock.block l.language) l.text l.rest
    (state_view g.F.Filter.Meant.shape g.T.Node.Meant.shape g.B.Node.Meant.shape g.B.Plan.Meant.shape g.B.ParseBlock.block l.state)
