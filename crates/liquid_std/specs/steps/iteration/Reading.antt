-- The argument that the next tokens make, after the name of its option.
use Rattle.std.specs.Prelude.{codes, true, Some, Result, Ok}
use Rattle.liquid_error.specs.meaning.Refusal.{Refusal, ok_then}
use Rattle.liquid_plugins.specs.meaning.Expression.{ExpressionShape}
use Rattle.liquid_parser.specs.meaning.Cursors.{expect_str}
use Rattle.liquid_parser.specs.meaning.Handed.{Tokens}
use Rattle.liquid_tags.specs.meaning.Asked.{next_as}
use Rattle.liquid_std.specs.declared.iteration.options.LoopOption.{LoopOption}
use Rattle.liquid_std.specs.declared.iteration.options.LoopOption.TheVariants.{Offset, Limit, Reversed, Cols}
use Rattle.liquid_std.specs.declared.iteration.options.OptionsShape.{OptionsShape}
use Rattle.liquid_std.specs.meaning.iteration.OptionsGiven.{expect_argument}

abbrev pub argument_given : LoopOption → Tokens → Result (ExpressionShape × Tokens) Refusal
argument_given option ts = ok_then (next_as (expect_str (codes ":")) ts) (λ colon. next_as (expect_argument option) colon.1)

-- these options with one that is read after its name, and the tokens after it
abbrev pub option_given : LoopOption → OptionsShape → Tokens → Result (OptionsShape × Tokens) Refusal
option_given Reversed o ts = Ok (record o { is_reversed = true }, ts)
option_given Offset o ts = ok_then (argument_given Offset ts) (λ e. Ok (record o { offset = Some e.0 }, e.1))
option_given Cols o ts = ok_then (argument_given Cols ts) (λ e. Ok (record o { cols = Some e.0 }, e.1))
option_given Limit o ts = ok_then (argument_given Limit ts) (λ e. Ok (record o { limit = Some e.0 }, e.1))
