-- The filters of the test_plugins: what arguments make from them, and what they return.
use Rattle.std.specs.Prelude.{ℕ, List, [], ◌∷◌, ◌++◌, codes, Result, Ok, Err}
use Rattle.liquid_error.specs.meaning.Refusal.{Refusal, plain, ok_then}
use Rattle.liquid_scalar.specs.meaning.Scalar.{text}
use Rattle.liquid_value.specs.meaning.Render.{render}
use Rattle.liquid_value.specs.meaning.Tree.{Tree, scalar}
use Rattle.liquid_runtime.specs.meaning.Erased.{Erased}
use Rattle.liquid_plugins.specs.meaning.ArgumentsOf.{Arguments}
use Rattle.liquid_plugins.specs.meaning.Chain.{FilterMeaning}
use Rattle.liquid_plugins.specs.meaning.Evaluation.{evaluate}
use Rattle.liquid_plugins.specs.meaning.Expression.{ExpressionShape}
use Rattle.liquid_plugins.specs.meaning.ExpressionOf.{expression_of}
use Rattle.test_plugins.specs.declared.filters.AnyFilter.{AnyFilter}
use Rattle.test_plugins.specs.declared.filters.AnyFilter.TheVariants as any
use Rattle.test_plugins.specs.declared.filters.AnyShape.{AnyShape}
use Rattle.test_plugins.specs.declared.filters.AnyShape.TheVariants as shape
use Rattle.test_plugins.specs.declared.filters.Filters.{Filters}
use Rattle.test_plugins.specs.declared.filters.Filters.TheVariants as filters

-- the refusal of arguments that a filter doesn't take
abbrev pub unexpected_arguments : Refusal
unexpected_arguments = plain (codes "Unexpected arguments")

-- one positional argument and no other
abbrev pub one_argument : List ExpressionShape → List (List ℕ × ExpressionShape) → Result ExpressionShape Refusal
one_argument (e ∷ []) [] = Ok e
one_argument es ks = Err unexpected_arguments

-- this filter, if there is no argument
abbrev pub without_arguments : AnyShape → List ExpressionShape → List (List ℕ × ExpressionShape) → Result AnyShape Refusal
without_arguments filter [] [] = Ok filter
without_arguments filter es ks = Err unexpected_arguments

-- the input's text, and after it the text of the argument's value
abbrev pub appended : ExpressionShape → Tree → Erased → Result Tree Refusal
appended e input seen = ok_then (evaluate seen e) (λ t. Ok (scalar (text (render input ++ render t))))

-- what `append` means
abbrev pub append_filters : FilterMeaning ExpressionShape
append_filters = record { answers = appended; label = λ e. codes "append" }

-- every input is refused
abbrev pub fails : Tree → Erased → Result Tree Refusal
fails input seen = Err (plain (codes "bad"))

-- the shape of either filter
abbrev pub any_shape : AnyFilter → AnyShape
any_shape (any.Append append) = shape.Append (expression_of append.parameters.value)
any_shape any.Fail = shape.Fail

-- what either returns, and its label
abbrev pub any_answers : AnyShape → Tree → Erased → Result Tree Refusal
any_answers (shape.Append e) = appended e
any_answers shape.Fail = fails

abbrev pub any_label : AnyShape → List ℕ
any_label (shape.Append e) = codes "append"
any_label shape.Fail = codes "fail"

-- what either means
abbrev pub any_filters : FilterMeaning AnyShape
any_filters = record { answers = any_answers; label = any_label }

-- what arguments make of either
abbrev pub any_made : Filters → Arguments → Result AnyShape Refusal
any_made filters.Append arguments = ok_then (one_argument arguments.positional arguments.keyword) (λ e. Ok (shape.Append e))
any_made filters.Fail arguments = without_arguments shape.Fail arguments.positional arguments.keyword

-- the names of the filters
abbrev pub filter_name : Filters → List ℕ
filter_name filters.Append = codes "append"
filter_name filters.Fail = codes "fail"
