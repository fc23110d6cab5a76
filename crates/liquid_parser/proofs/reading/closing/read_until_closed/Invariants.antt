use denote.Text.{Utf8}
use denote.Shadow.{shadow}
use Rattle.std.proofs.Common.{◌≡◌, ◌++◌, ℕ, List, length}
use Rattle.liquid_parser.specs.meaning.Plugins.{language_of}
use Rattle.liquid_parser.specs.steps.Views.{state_view}
use Rattle.liquid_parser.proofs.ClosingLemmas.{Closing}
use Rattle.liquid_parser.proofs.reading.closing.read_until_closed.Given as goal

abbrev pub decreases-elements : goal.decreases-elements
decreases-elements g l = length l.rest

-- what is left is text and an end of the text, and it is read from the state on as the text is from the first
abbrev pub invariant-elements : goal.invariant-elements
invariant-elements g l =
    shadow (Utf8 l.rest)
    × ((front : List ℕ) × (l.text ≡ front ++ l.rest))
    × Closing (language_of g.F.ParseFilter.makes g.T.ParseTag.gives g.B.ParseBlock.block l.language) l.source 1 l.text
    (state_view g.F.Filter.Meant.shape g.T.Node.Meant.shape g.B.Node.Meant.shape g.B.Plan.Meant.shape g.B.ParseBlock.block l.fn.state)
    l.rest (state_view g.F.Filter.Meant.shape g.T.Node.Meant.shape g.B.Node.Meant.shape g.B.Plan.Meant.shape g.B.ParseBlock.block l.state)
