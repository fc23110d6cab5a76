-- Reading the arguments of a filter with an expression: text literals, what the one tag in a text is read as, and conditions.
use Rattle.std.specs.Prelude.{ℕ, List, [], ◌∷◌, ◌++◌, codes, Option, None, Some, Result, Ok, Err, ok_or}
use Rattle.std.specs.Result.{result_ok}
use Rattle.liquid_error.specs.meaning.Refusal.{Refusal, ok_then}
use Rattle.liquid_grammar.specs.meaning.Cover.{Element, tag_element}
use Rattle.liquid_grammar.specs.meaning.Faults.{tag_fault}
use Rattle.liquid_grammar.specs.meaning.Tokens as token
use Rattle.liquid_grammar.proofs.CoverLemmas.{cover_of}
use Rattle.liquid_scalar.specs.meaning.Scalar.{text}
use Rattle.liquid_value.specs.meaning.Tree.{Tree, scalar}
use Rattle.liquid_plugins.specs.meaning.Expression.{ExpressionShape, literal, variable, expression_text}
use Rattle.liquid_parser.specs.meaning.Handed.{Tokens, handed}
use Rattle.liquid_parser.specs.meaning.Reading.{checked, refused_at}
use Rattle.liquid_std.specs.declared.conditions.condition.ConditionShape.{ConditionShape}
use Rattle.liquid_std.specs.meaning.conditions.ConditionsGiven.{condition_given}
use Rattle.liquid_filters.specs.meaning.value.Errors.{found_error}

-- the refusal of an argument that is not what it has to be, and of a string or a variable that is not
abbrev pub expression_expected : Tree → Refusal
expression_expected t = found_error (codes "Expression expected") t

abbrev pub text_found : List ℕ → Refusal
text_found t = expression_expected (scalar (text t))

abbrev pub variable_found : ExpressionShape → Refusal
variable_found e = text_found (expression_text e)

-- the text that an argument is
abbrev pub text_literal : ExpressionShape → Result (List ℕ) Refusal
text_literal (literal (scalar (text t))) = Ok t
text_literal (literal t) = Err (expression_expected t)
text_literal (variable name indexes) = Err (variable_found (variable name indexes))

-- the tag that elements are, if they are one
abbrev pub only_tag : List Element → Option token.Tag
only_tag (tag_element tag source ∷ []) = Some tag
only_tag other = None

module _ {A : Type 0} (given : Tokens → Result A Refusal) where
  -- what a tag is read as: its tokens, if none of their literals and brackets has a fault
  abbrev pub of_tag : List ℕ → token.Tag → Result A Refusal
  of_tag source tag = ok_then (checked source (tag_fault tag)) (λ _. given (handed source tag))

  -- what a string is read as that has to be a tag
  abbrev pub tag_read : List ℕ → Result A Refusal
  tag_read source =
      ok_then (ok_or (only_tag (cover_of source).elements) (refused_at source (codes "Invalid liquid") source)) (of_tag source)

-- the tag `if` with a string after its name
abbrev pub if_tag : List ℕ → List ℕ
if_tag inside = codes "{% if " ++ (inside ++ codes " %}")

-- the condition that a string is, if it is one
abbrev pub condition_in : List ℕ → Option ConditionShape
condition_in inside = result_ok (tag_read condition_given (if_tag inside))

abbrev pub condition_read : List ℕ → Result ConditionShape Refusal
condition_read inside = ok_or (condition_in inside) (text_found inside)
