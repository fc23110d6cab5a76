-- The shapes of literals.
use Rattle.std.proofs.Common.{◌≡◌, String, Global, string_bytes, rules}
use Rattle.std.proofs.Common.{ap, ◌∙◌}
use Rattle.liquid_scalar.specs.meaning.Scalar.{text}
use Rattle.liquid_scalar.specs.declared.scalar.ScalarOf.TheVariants.{Str}
use Rattle.liquid_value.specs.meaning.Tree.{scalar}
use Rattle.liquid_value.specs.meaning.View.{view}
use Rattle.liquid_value.specs.declared.value.Value.{Value, Scalar, the_lemmas as value_lemmas}
use Rattle.liquid_plugins.specs.meaning.Expression.{literal}
use Rattle.liquid_plugins.specs.meaning.ExpressionOf.{expression_of}
use Rattle.liquid_plugins.specs.declared.expression.Expression.{Literal, the_lemmas}

pub literal_shape : (x : Value) → expression_of (Literal x) ≡ literal (view x)
literal_shape x = search (rules, the_lemmas)

view_of_text : (x : String Global) → view (Scalar (Str x)) ≡ scalar (text (string_bytes x))
view_of_text x = search (rules, value_lemmas)

pub text_shape : (x : String Global) → expression_of (Literal (Scalar (Str x))) ≡ literal (scalar (text (string_bytes x)))
text_shape x = literal_shape (Scalar (Str x)) ∙ ap literal (view_of_text x)
