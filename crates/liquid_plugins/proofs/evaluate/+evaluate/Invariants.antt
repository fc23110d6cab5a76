use Rattle.std.proofs.Common.{◌≡◌, drop, string_bytes}
use Rattle.liquid_scalar.specs.meaning.Scalar.{scal}
use Rattle.liquid_paths.specs.meaning.PathOf.{path_of as code_path_of}
use Rattle.liquid_plugins.specs.meaning.Evaluation.{path_of, named_path}
use Rattle.liquid_plugins.specs.meaning.ExpressionOf.{expressions_of}
use Rattle.liquid_plugins.proofs.PathSteps.{following}
use Rattle.liquid_plugins.proofs.evaluate.+evaluate.Given as goal

abbrev pub invariant-named_path-loop-index : goal.invariant-named_path-loop-index
invariant-named_path-loop-index g l =
    let v = g.R.Runtime.view l.runtime in
    named_path v (scal string_bytes l.name) (expressions_of l.indexes.items) ≡ following (code_path_of l.path)
    (path_of v (expressions_of (drop l.index-index l.index-items)))
