-- The tag `cycle`: the values of a group, one after the other.
use Rattle.std.specs.Prelude.{ℕ, ◌+◌, List, [], cond, length, map, nat_lt, Option, None, Some, Result, Ok, Err, slice_get}
use Rattle.liquid_error.specs.meaning.Refusal.{Refusal, ok_then}
use Rattle.liquid_value.specs.meaning.Render.{render}
use Rattle.liquid_runtime.specs.meaning.View.{View}
use Rattle.liquid_plugins.specs.meaning.Evaluation.{evaluate}
use Rattle.liquid_plugins.specs.meaning.Expression.{ExpressionShape}
use Rattle.liquid_plugins.specs.meaning.ExpressionOf.{expression_of}
use Rattle.liquid_plugins.specs.meaning.Turning.{answers}
use Rattle.liquid_plugins.specs.meaning.Turns.{TurnShape, text_turn, Answered}
use Rattle.liquid_std.specs.declared.marks.cycle.Cycle.{Cycle}
use Rattle.liquid_std.specs.declared.marks.cycle.CycleShape.{CycleShape}
use Rattle.liquid_std.specs.declared.marks.marks.MarksShape.{MarksShape}
use Rattle.liquid_std.specs.meaning.marks.Groups.{group_of, key_in}
use Rattle.liquid_std.specs.meaning.marks.Held.{MarksIn, marked, marks_in}
use Rattle.liquid_std.specs.meaning.marks.Marks.{place_of, with_place}

-- the shape of a `cycle`
abbrev pub cycle_of : Cycle → CycleShape
cycle_of c = record { group = group_of c.group; values = map expression_of c.values.items }

-- the text of a value; no value has no text
abbrev pub text_of : {Reg : Type 0} → View Reg → Option ExpressionShape → Result (List ℕ) Refusal
text_of v None = Ok []
text_of v (Some e) = ok_then (evaluate v e) (λ t. Ok (render t))

-- the text of the value at a place; the other values are not evaluated
abbrev pub text_at : {Reg : Type 0} → View Reg → List ExpressionShape → ℕ → Result (List ℕ) Refusal
text_at v es place = text_of v (slice_get es place)

-- the place after a place, of this many; after the last comes the first
abbrev pub next_place : ℕ → ℕ → ℕ
next_place place count = cond (nat_lt (place + 1) count) (place + 1) 0

-- the text that comes next in a group, and the marks after it
abbrev pub next_of : {Reg : Type 0} → View Reg → CycleShape → MarksShape → Result (List ℕ × MarksShape) Refusal
next_of v c m = ok_then (key_in v c.group) (λ key. ok_then (text_at v c.values (place_of m key)) (λ text.
    Ok (text, with_place key (next_place (place_of m key) (length c.values)) m)))

-- the view with the marks after a text, if there is one
abbrev pub view_after : {Reg : Type 0} → MarksIn Reg → View Reg → Result (List ℕ × MarksShape) Refusal → View Reg
view_after held v (Ok next) = marked held next.1 v
view_after held v (Err r) = v

-- the turn of a `cycle`: the text is written, and the group has its next place
abbrev pub cycles : {P Reg : Type 0} → MarksIn Reg → CycleShape → P → View Reg → Answered TurnShape P Reg
cycles held c p v =
    let next = next_of v c (marks_in held v) in
    answers (ok_then next (λ n. Ok (text_turn n.0))) p (view_after held v next)
