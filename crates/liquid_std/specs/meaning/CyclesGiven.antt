-- What `cycle` makes of its tokens.
use Rattle.std.specs.Prelude.{List, [], ◌∷◌, codes, bytes_eq, cond, Option, None, Some, option_and_then, Result, Ok}
use Rattle.liquid_error.specs.meaning.Refusal.{Refusal, ok_then}
use Rattle.liquid_plugins.specs.meaning.Expression.{ExpressionShape}
use Rattle.liquid_parser.specs.meaning.Handed.{Token, Tokens, expect_value, next, or_unexpected}
use Rattle.liquid_std.specs.meaning.conditions.Values.{values_given}
use Rattle.liquid_std.specs.declared.marks.cycle.CycleShape.{CycleShape}
use Rattle.liquid_std.specs.declared.marks.groups.GroupShape.TheVariants.{Named, Unnamed}
use Rattle.liquid_std.specs.meaning.marks.Groups.{displayed, group_key, unnamed}

-- the next token and the tokens after a colon, if a colon follows it
abbrev pub if_colon : Token → Token × Tokens → Option (Token × Tokens)
if_colon name colon = cond (bytes_eq colon.0.text (codes ":")) (Some (name, colon.1)) None

abbrev pub name_in : Tokens → Option (Token × Tokens)
name_in ts = option_and_then (λ name. option_and_then (if_colon name.0) (next name.1)) (next ts)

-- values with commas between them
abbrev pub cycled : Tokens → Result (List ExpressionShape) Refusal
cycled ts = values_given (codes "," ∷ []) ts

-- the values of a group with this name
abbrev pub named_given : Token → Tokens → Result CycleShape Refusal
named_given t ts =
    ok_then (or_unexpected t (expect_value t)) (λ e. ok_then (cycled ts) (λ es. Ok (record { group = Named e; values = es })))

-- values without a name
abbrev pub unnamed_given : Tokens → Result CycleShape Refusal
unnamed_given ts = ok_then (cycled ts) (λ es. Ok (record { group = Unnamed (group_key (unnamed (displayed es))); values = es }))

-- values, perhaps with a value and a colon before them, which is the name of the group
abbrev pub given_after : Tokens → Option (Token × Tokens) → Result CycleShape Refusal
given_after ts None = unnamed_given ts
given_after ts (Some name) = named_given name.0 name.1

abbrev pub cycle_given : Tokens → Result CycleShape Refusal
cycle_given ts = given_after ts (name_in ts)
