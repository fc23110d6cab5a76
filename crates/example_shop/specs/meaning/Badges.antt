-- What the tag `badge` takes, and what it means.
use Rattle.std.specs.Prelude.{ℕ, List, ◌++◌, codes, Result, Ok}
use Rattle.liquid_error.specs.meaning.Refusal.{Refusal, ok_then}
use Rattle.liquid_value.specs.meaning.Render.{render}
use Rattle.liquid_value.specs.meaning.Tree.{Tree}
use Rattle.liquid_runtime.specs.meaning.View.{View}
use Rattle.liquid_parser.specs.meaning.Cursors.{next_as}
use Rattle.liquid_parser.specs.meaning.Handed.{Tokens, expect_nothing, expect_value}
use Rattle.liquid_plugins.specs.meaning.Evaluation.{evaluate}
use Rattle.liquid_plugins.specs.meaning.Expression.{ExpressionShape}
use Rattle.liquid_plugins.specs.meaning.Turning.{answers, begins_with, captures_nothing}
use Rattle.liquid_plugins.specs.meaning.Turns.{TurnShape, text_turn, Answered, NodeMeaning}

-- it takes a value, and no token after it
abbrev pub badge_given : Tokens → Result ExpressionShape Refusal
badge_given ts =
    ok_then (next_as (codes "Value expected") expect_value ts) (λ value. ok_then (expect_nothing value.1) (λ u. Ok value.0))

-- the text of a value in brackets
abbrev pub badged : Tree → List ℕ
badged t = codes "[" ++ (render t ++ codes "]")

-- the turn that writes it
abbrev pub badge_turn : Result Tree Refusal → Result TurnShape Refusal
badge_turn value = ok_then value (λ t. Ok (text_turn (badged t)))

-- the value is evaluated, and nothing else of the runtime is changed
abbrev pub badge_takes : {P Reg : Type 0} → ExpressionShape → P → View Reg → Answered TurnShape P Reg
badge_takes e progress v = answers (badge_turn (evaluate v e)) progress v

-- what the node means: it takes one turn
abbrev pub badge : {Reg : Type 0} → NodeMeaning ExpressionShape ℕ Reg
badge = record { starts = λ e. begins_with 1; count = λ turns. turns; takes = badge_takes; catches = captures_nothing }
