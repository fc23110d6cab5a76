-- The tag `increment`.
use Rattle.std.specs.Prelude.{ℕ, ℤ, pos, ◌+ℤ◌, ◌-◌, ◌^◌, List, codes, cond, Option, None, Some, option_and_then, unwrap_or, Ok, Err}
use Rattle.std.specs.Fmt.{signed_decimal}
use Rattle.std.specs.Int.Signed.{le_z}
use Rattle.liquid_error.specs.meaning.Refusal.{Refusal, plain, with_context, ok_then}
use Rattle.liquid_scalar.specs.meaning.Scalar.{integer, to_integer}
use Rattle.liquid_value.specs.meaning.Tree.{Tree, scalar}
use Rattle.liquid_value.specs.meaning.Parts.{as_scalar}
use Rattle.liquid_runtime.specs.meaning.View.{View}
use Rattle.liquid_runtime.specs.meaning.Calls.{value_in}
use Rattle.liquid_runtime.specs.meaning.Sets.{old_index, put_index}
use Rattle.liquid_plugins.specs.meaning.Turns.{TurnShape, text_turn, Answered}
use Rattle.liquid_plugins.specs.meaning.Turning.{answers}

-- the number that a value counts from: its own, or 0 if it has none
abbrev pub counts_from : Option Tree → ℤ
counts_from t = unwrap_or (option_and_then to_integer (option_and_then as_scalar t)) (pos 0)

-- the number plus one, or none if that is past the greatest
abbrev pub one_higher : ℤ → Option ℤ
one_higher n = cond (le_z (n +ℤ pos 1) (pos (2 ^ 63 - 1))) (Some (n +ℤ pos 1)) None

abbrev pub past_limit : List ℕ → Refusal
past_limit name = with_context (codes "name") name (plain (codes "Counter past its limit"))

-- the number is written, and the index variable is increased by one; at the greatest number neither is done
abbrev pub counted_on : {P Reg : Type 0} → List ℕ → ℤ → Option ℤ → P → View Reg → Answered TurnShape P Reg
counted_on name n None p v = answers (Err (past_limit name)) p v
counted_on name n (Some higher) p v =
    answers (ok_then (old_index v name) (λ old. Ok (text_turn (signed_decimal n)))) p (put_index v name (scalar (integer higher)))

abbrev pub increments : {P Reg : Type 0} → List ℕ → P → View Reg → Answered TurnShape P Reg
increments name p v = counted_on name (counts_from (value_in v.index name)) (one_higher (counts_from (value_in v.index name))) p v
