-- An expression, as plain data, and its text.
use Rattle.std.specs.Prelude.{ℕ, List, [], ◌++◌, codes, Option, None, Some}
use Rattle.liquid_scalar.specs.meaning.Scalar.{Scal, render_scalar}
use Rattle.liquid_value.specs.meaning.Tree.{Tree}
use Rattle.liquid_value.specs.meaning.Render.{source}

-- a literal, or a variable: its name and its indexes, which are expressions again
mutual
  pub data ExpressionShape : Type 0 where
    literal : Tree → ExpressionShape
    variable : Scal → Indexes → ExpressionShape

  pub data Indexes : Type 0 where
    no_indexes : Indexes
    index : ExpressionShape → Indexes → Indexes

-- the text that is shown: a literal's source, or a variable's name with each index in brackets
abbrev mutual
  pub expression_text : ExpressionShape → List ℕ
  expression_text (literal t) = source t
  expression_text (variable name indexes) = render_scalar name ++ indexes_text indexes

  pub indexes_text : Indexes → List ℕ
  indexes_text no_indexes = []
  indexes_text (index e es) = (codes "[" ++ (expression_text e ++ codes "]")) ++ indexes_text es

-- the value of a literal
abbrev pub as_literal : ExpressionShape → Option Tree
as_literal (literal t) = Some t
as_literal (variable _ _) = None

-- the name and the indexes of a variable, as the variable again
abbrev pub as_variable : ExpressionShape → Option ExpressionShape
as_variable (literal t) = None
as_variable (variable name indexes) = Some (variable name indexes)
