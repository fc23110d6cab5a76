use Rattle.std.proofs.Common.{◌≡◌, drop, string_bytes}
use Rattle.liquid_scalar.specs.meaning.Scalar.{scal}
use Rattle.liquid_paths.specs.meaning.PathOf.{path_of as code_path_of}
use Rattle.liquid_plugins.specs.meaning.Evaluation.{try_path_of, try_named_path}
use Rattle.liquid_plugins.specs.meaning.ExpressionOf.{expressions_of}
use Rattle.liquid_plugins.proofs.PathSteps.{try_after}
use Rattle.liquid_plugins.proofs.evaluate.+try_evaluate.Given as goal

abbrev pub invariant-try_named_path-loop-index : goal.invariant-try_named_path-loop-index
invariant-try_named_path-loop-index g l =
    let v = g.R.Runtime.view l.runtime in
    try_named_path v (scal string_bytes l.name) (expressions_of l.indexes.items) ≡ try_after (code_path_of l.path)
    (try_path_of v (expressions_of (drop l.index-index l.index-items)))
