-- The options of a loop, and their numbers.
use Rattle.std.specs.Prelude.{ℤ, Option, None, Some, option_map, Result, Ok}
use Rattle.liquid_error.specs.meaning.Refusal.{Refusal, ok_then}
use Rattle.liquid_value.specs.meaning.Tree.{Tree, nil}
use Rattle.liquid_runtime.specs.meaning.View.{View}
use Rattle.liquid_plugins.specs.meaning.Evaluation.{evaluate}
use Rattle.liquid_plugins.specs.meaning.Expression.{ExpressionShape}
use Rattle.liquid_plugins.specs.meaning.ExpressionOf.{expression_of}
use Rattle.liquid_filters.specs.meaning.value.Numbers.{whole}
use Rattle.liquid_std.specs.declared.iteration.options.Options.{Options}
use Rattle.liquid_std.specs.declared.iteration.options.OptionsShape.{OptionsShape}

-- the shape of options
abbrev pub options_of : Options → OptionsShape
options_of o = record {
  offset = option_map expression_of o.offset;
  limit = option_map expression_of o.limit;
  is_reversed = o.is_reversed;
  cols = option_map expression_of o.cols;
}

-- the integer that a value is; nil is none
abbrev pub number_given : Tree → Result (Option ℤ) Refusal
number_given nil = Ok None
number_given t = ok_then (whole t) (λ n. Ok (Some n))

-- the number of an option, if it is given
abbrev pub option_number : {Reg : Type 0} → View Reg → Option ExpressionShape → Result (Option ℤ) Refusal
option_number v None = Ok None
option_number v (Some e) = ok_then (evaluate v e) number_given
