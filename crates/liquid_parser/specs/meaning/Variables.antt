-- What a text that should be one variable is read as.
use Rattle.std.specs.Prelude.{ℕ, List, [], Result, Ok}
use Rattle.liquid_error.specs.meaning.Refusal.{Refusal, ok_then}
use Rattle.liquid_grammar.specs.meaning.Faults.{value_fault}
use Rattle.liquid_grammar.specs.meaning.Values.{Value, VariableRule}
use Rattle.liquid_plugins.specs.meaning.Expression.{ExpressionShape}
use Rattle.liquid_parser.specs.meaning.Handed.{expression_meant}
use Rattle.liquid_parser.specs.meaning.Reading.{checked}

-- the whole text is a variable
pub record WholeVariable (s : List ℕ) : Type 0 where
  pub value : Value
  pub match : VariableRule s [] value

-- its literals and brackets are checked, and then it is that variable
abbrev pub variable_read : List ℕ → Value → Result ExpressionShape Refusal
variable_read source v = ok_then (checked source (value_fault v)) (λ _. Ok (expression_meant v))
