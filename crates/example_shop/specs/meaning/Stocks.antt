-- What the block `stock` takes, and what it means.
use Rattle.std.specs.Prelude.{ℕ, ℤ, pos, [], ◌∷◌, codes, cond, false, Option, None, Some, option_and_then, Result, Ok}
use Rattle.std.specs.Int.Signed.{le_z}
use Rattle.liquid_error.specs.meaning.Refusal.{Refusal, ok_then}
use Rattle.liquid_scalar.specs.meaning.Scalar.{to_integer}
use Rattle.liquid_value.specs.meaning.Parts.{as_scalar}
use Rattle.liquid_value.specs.meaning.Tree.{Tree}
use Rattle.liquid_runtime.specs.meaning.Frames.{no_frame}
use Rattle.liquid_runtime.specs.meaning.View.{View}
use Rattle.liquid_parser.specs.meaning.Cursors.{next_as}
use Rattle.liquid_parser.specs.meaning.Handed.{Tokens, expect_nothing, expect_value}
use Rattle.liquid_parser.specs.meaning.Lang.{Block, BlockNames}
use Rattle.liquid_plugins.specs.meaning.Evaluation.{evaluate}
use Rattle.liquid_plugins.specs.meaning.Expression.{ExpressionShape}
use Rattle.liquid_plugins.specs.meaning.Turning.{answers, captures_nothing}
use Rattle.liquid_plugins.specs.meaning.Turns.{TurnShape, body_turn, Answered, NodeMeaning}

-- its start tag takes a value, and no token after it
abbrev pub stock_given : Tokens → Result ExpressionShape Refusal
stock_given ts =
    ok_then (next_as (codes "Value expected") expect_value ts) (λ value. ok_then (expect_nothing value.1) (λ u. Ok value.0))

-- its start tag and its end tag
abbrev pub stock_names : BlockNames
stock_names = record { start_name = codes "stock"; end_name = codes "endstock" }

-- its divider takes no token and changes nothing, and its node is what was planned
abbrev pub stock_block : {F : Type 0} → Block F ExpressionShape ExpressionShape
stock_block = record {
  names = stock_names;
  means = record {
    dividers = codes "soldout" ∷ [];
    escapes = false;
    nests = false;
    begin = λ filters ts. stock_given ts;
    divide = λ plan name ts. ok_then (expect_nothing ts) (λ u. Ok plan);
    finish = λ plan body. Ok plan;
  };
}

-- the first part for a number above 0, else the second
abbrev pub part_of : Option ℤ → ℕ
part_of None = 1
part_of (Some n) = cond (le_z n (pos 0)) 1 0

abbrev pub part_for : Tree → ℕ
part_for left = part_of (option_and_then to_integer (as_scalar left))

-- the start chooses the part
abbrev pub stock_starts : {Reg : Type 0} → ExpressionShape → View Reg → Answered ℕ (Unit {0}) Reg
stock_starts e v = answers (ok_then (evaluate v e) (λ left. Ok (part_for left))) tt v

-- the turn renders it without a frame
abbrev pub stock_takes : {Reg : Type 0} → ExpressionShape → ℕ → View Reg → Answered TurnShape ℕ Reg
stock_takes e part v = answers (Ok (body_turn part no_frame None)) part v

-- what the node means: it takes one turn
abbrev pub stock : {Reg : Type 0} → NodeMeaning ExpressionShape ℕ Reg
stock = record { starts = stock_starts; count = λ part. 1; takes = stock_takes; catches = captures_nothing }
