-- Codes of expressions and chains, so that markers can be used for them.
use Rattle.std.specs.Prelude.{◌≡◌, List, refl}
use Rattle.std.specs.Coded.{Coded, code_by, coded×, coded_list}
use Rattle.std.proofs.Common.{ap, ◌∙◌}
use Rattle.liquid_value.specs.meaning.Tree.{Tree, nil}
use Rattle.liquid_plugins.specs.meaning.Chain.{ChainShape}
use Rattle.liquid_plugins.specs.meaning.Expression.{ExpressionShape, literal, variable, Indexes, no_indexes, index}
use Rattle.liquid_plugins.specs.steps.TreeCodes.{
  Pairs,
  leaf,
  pair,
  coded_pairs,
  Leaf,
  of_scalar,
  nothing,
  coded_leaf,
  tree_pairs,
  tree_back,
  tree_same,
}

mutual
  pub expression_pairs : ExpressionShape → Pairs Leaf
  expression_pairs (literal t) = pair (leaf nothing) (tree_pairs t)
  expression_pairs (variable name is) = pair (leaf (of_scalar name)) (indexes_pairs is)

  pub indexes_pairs : Indexes → Pairs Leaf
  indexes_pairs no_indexes = leaf nothing
  indexes_pairs (index e es) = pair (expression_pairs e) (indexes_pairs es)

abbrev expression_marked : Pairs Leaf → Tree → Indexes → ExpressionShape
expression_marked (leaf (of_scalar name)) t is = variable name is
expression_marked other t is = literal t

mutual
  pub expression_back : Pairs Leaf → ExpressionShape
  expression_back (leaf x) = literal nil
  expression_back (pair p q) = expression_marked p (tree_back q) (indexes_back q)

  pub indexes_back : Pairs Leaf → Indexes
  indexes_back (leaf x) = no_indexes
  indexes_back (pair p q) = index (expression_back p) (indexes_back q)

mutual
  unfolding expression_pairs expression_back

  pub expression_same : (e : ExpressionShape) → expression_back (expression_pairs e) ≡ e
  expression_same (literal t) = ap literal (tree_same t)
  expression_same (variable name is) = ap (variable name) (indexes_same is)

  pub indexes_same : (is : Indexes) → indexes_back (indexes_pairs is) ≡ is
  indexes_same no_indexes = refl
  indexes_same (index e es) = ap (λ u. index u (indexes_back (indexes_pairs es))) (expression_same e) ∙ ap (index e) (indexes_same es)

pub expression_code : Coded ExpressionShape
expression_code = code_by (Pairs Leaf) (coded_pairs coded_leaf) expression_pairs expression_back expression_same

abbrev pub chain_code : {F : Type 0} → Coded F → Coded (ChainShape F)
chain_code {F} c =
    code_by (ExpressionShape × List F) (coded× expression_code (coded_list c)) (λ e. (e.entry, e.filters))
    (λ p. record { entry = p.0; filters = p.1 }) (λ _. refl)
