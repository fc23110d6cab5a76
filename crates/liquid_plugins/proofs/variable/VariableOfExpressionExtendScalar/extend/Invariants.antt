use Rattle.std.proofs.Common.{◌≡◌, ◌++◌, map, string_bytes}
use Rattle.liquid_scalar.specs.meaning.Scalar.{scal}
use Rattle.liquid_plugins.specs.meaning.ExpressionOf.{index_list, literal_of, name_of}
use Rattle.liquid_plugins.proofs.variable.VariableOfExpressionExtendScalar.extend.Given as goal

abbrev pub invariant-loop-scalar : goal.invariant-loop-scalar
invariant-loop-scalar g l =
    (name_of l.self ≡ name_of l.fn.self) × (index_list l.self ≡ index_list l.fn.self
    ++ map (λ s. literal_of (scal string_bytes s)) l.yielded)
