-- The tag `decrement`, over the index variables of `increment`.
use Rattle.std.specs.Prelude.{ℕ, ℤ, pos, negsuc, ◌-ℤ◌, ◌-◌, ◌^◌, List, cond, Option, None, Some, Ok, Err}
use Rattle.std.specs.Fmt.{signed_decimal}
use Rattle.std.specs.Int.Signed.{le_z}
use Rattle.liquid_error.specs.meaning.Refusal.{ok_then}
use Rattle.liquid_scalar.specs.meaning.Scalar.{integer}
use Rattle.liquid_value.specs.meaning.Tree.{scalar}
use Rattle.liquid_runtime.specs.meaning.View.{View}
use Rattle.liquid_runtime.specs.meaning.Calls.{value_in}
use Rattle.liquid_runtime.specs.meaning.Sets.{old_index, put_index}
use Rattle.liquid_plugins.specs.meaning.Turns.{TurnShape, text_turn, Answered}
use Rattle.liquid_plugins.specs.meaning.Turning.{answers}
use Rattle.liquid_tags.specs.meaning.Counters.{counts_from, past_limit}

-- the number one lower, if it is none below the least
abbrev pub one_lower : ℤ → Option ℤ
one_lower n = cond (le_z (negsuc (2 ^ 63 - 1)) (n -ℤ pos 1)) (Some (n -ℤ pos 1)) None

-- the index variable is one lower, and its number is written; at the least number neither is done
abbrev pub counted_down : {P Reg : Type 0} → List ℕ → Option ℤ → P → View Reg → Answered TurnShape P Reg
counted_down name None p v = answers (Err (past_limit name)) p v
counted_down name (Some lower) p v =
    answers (ok_then (old_index v name) (λ old. Ok (text_turn (signed_decimal lower)))) p (put_index v name (scalar (integer lower)))

abbrev pub decrements : {P Reg : Type 0} → List ℕ → P → View Reg → Answered TurnShape P Reg
decrements name p v = counted_down name (one_lower (counts_from (value_in v.index name))) p v
