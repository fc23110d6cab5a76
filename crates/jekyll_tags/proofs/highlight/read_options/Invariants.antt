use Rattle.std.proofs.Common.{◌≡◌, false}
use Rattle.liquid_parser.specs.meaning.Cursors.{bytes_left}
use Rattle.liquid_parser.specs.meaning.Handed.{Tokens}
use Rattle.liquid_parser.specs.meaning.Plugins.{AreTokens}
use Rattle.jekyll_tags.specs.meaning.HighlightsGiven.{options_from}
use Rattle.jekyll_tags.proofs.highlight.read_options.Given as goal

abbrev pub invariant-options : goal.invariant-options
invariant-options l =
    (ts : Tokens) → AreTokens l.fn.tokens ts → (rest : Tokens) × AreTokens l.tokens rest
    × (options_from false ts.left ≡ options_from l.is_named rest.left)

abbrev pub decreases-options : goal.decreases-options
decreases-options l = bytes_left l.tokens
