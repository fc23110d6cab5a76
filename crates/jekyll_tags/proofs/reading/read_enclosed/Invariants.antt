use Rattle.std.proofs.Common.{◌≡◌, map}
use Rattle.liquid_parser.specs.meaning.Cursors.{bytes_left}
use Rattle.liquid_parser.specs.meaning.Handed.{Tokens}
use Rattle.liquid_parser.specs.meaning.Plugins.{AreTokens, registry_of}
use Rattle.liquid_plugins.specs.meaning.ExpressionOf.{chain_of}
use Rattle.jekyll_tags.specs.meaning.Given.{parts_from}
use Rattle.jekyll_tags.proofs.PartLemmas.{read_on}
use Rattle.jekyll_tags.proofs.reading.read_enclosed.Given as goal

abbrev pub invariant-parts : goal.invariant-parts
invariant-parts g l =
    let filters = registry_of g.F.ParseFilter.makes l.filters in
    (ts : Tokens) → AreTokens l.fn.tokens ts → (rest : Tokens) × AreTokens l.tokens rest
    × (parts_from filters ts.following ts.left ≡ read_on filters (map (chain_of g.F.Filter.Meant.shape) l.parts.items) rest)

abbrev pub decreases-parts : goal.decreases-parts
decreases-parts g l = bytes_left l.tokens
