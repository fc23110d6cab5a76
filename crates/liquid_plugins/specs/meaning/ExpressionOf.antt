-- The shapes of expressions and chains.
use Rattle.std.specs.Prelude.{List, [], ◌∷◌, ◌++◌, map, string_bytes}
use Rattle.liquid_scalar.specs.meaning.Scalar.{Scal, scal}
use Rattle.liquid_value.specs.meaning.Tree.{scalar}
use Rattle.liquid_value.specs.meaning.View.{view as tree_of}
use Rattle.liquid_plugins.specs.meaning.Expression.{ExpressionShape, literal, variable, Indexes, no_indexes, index}
use Rattle.liquid_plugins.specs.meaning.Chain.{ChainShape}
use Rattle.liquid_plugins.specs.declared.expression.Expression.{Expression, fold-Expression}
use Rattle.liquid_plugins.specs.declared.expression.Expression.TheOpen.{Expression-F}
use Rattle.liquid_plugins.specs.declared.expression.VariableOf.{VariableOf}
use Rattle.liquid_plugins.specs.declared.expression.FilterChain.{FilterChain}

-- the indexes of a list
abbrev pub indexes_of : List ExpressionShape → Indexes
indexes_of [] = no_indexes
indexes_of (e ∷ es) = index e (indexes_of es)

-- one level of an expression, with each expression inside already given as its shape
abbrev pub expression_step : Expression-F ExpressionShape → ExpressionShape
expression_step (Expression-F.Variable v) = variable (scal string_bytes v.variable) (indexes_of v.indexes.items)
expression_step (Expression-F.Literal t) = literal (tree_of t)

-- the shape of an expression
abbrev pub expression_of : Expression → ExpressionShape
expression_of = fold-Expression ExpressionShape expression_step

-- the indexes of a list of expressions
abbrev pub expressions_of : List Expression → Indexes
expressions_of es = indexes_of (map expression_of es)

-- the name of a variable, its indexes, and its shape
abbrev pub name_of : VariableOf Expression → Scal
name_of v = scal string_bytes v.variable

abbrev pub own_indexes_of : VariableOf Expression → Indexes
own_indexes_of v = expressions_of v.indexes.items

-- the indexes, as a list
abbrev pub index_list : VariableOf Expression → List ExpressionShape
index_list v = map expression_of v.indexes.items

-- a literal scalar
abbrev pub literal_of : Scal → ExpressionShape
literal_of x = literal (scalar x)

abbrev pub variable_of : VariableOf Expression → ExpressionShape
variable_of v = variable (name_of v) (own_indexes_of v)

-- the variable with more indexes after its own
abbrev pub with_more : VariableOf Expression → List ExpressionShape → ExpressionShape
with_more v more = variable (name_of v) (indexes_of (index_list v ++ more))

-- the shape of a chain
abbrev pub chain_of : {X F : Type 0} → (X → F) → FilterChain X → ChainShape F
chain_of shape c = record { entry = expression_of c.entry; filters = map shape c.filters.items }
