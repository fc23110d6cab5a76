use Rattle.std.proofs.Common.{◌≡◌}
use Rattle.liquid_parser.specs.meaning.Cursors.{bytes_left}
use Rattle.liquid_parser.specs.meaning.Handed.{Tokens}
use Rattle.liquid_parser.specs.meaning.Plugins.{AreTokens}
use Rattle.liquid_std.specs.meaning.iteration.Options.{options_of}
use Rattle.liquid_std.specs.meaning.iteration.OptionsGiven.{no_options, options_from}
use Rattle.liquid_std.proofs.iteration.read_loop.read_options.Given as goal

abbrev pub invariant-options : goal.invariant-options
invariant-options l =
    (ts : Tokens) → AreTokens l.fn.tokens ts
    → (rest : Tokens) × AreTokens l.tokens rest × (options_from l.block no_options ts.left ≡ options_from l.block
    (options_of l.options) rest.left)

abbrev pub decreases-options : goal.decreases-options
decreases-options l = bytes_left l.tokens
