-- The path of a variable, index by index.
use Rattle.std.proofs.Common.{◌≡◌, ℕ, ◌+◌, ◌<◌, List, ◌++◌, length, drop, get_or, Option, option_map, Result, Ok, ap, ◌∙◌, add-one}
use Rattle.std.proofs.Math.Seq.{drop-cons}
use Rattle.liquid_error.specs.meaning.Refusal.{Refusal}
use Rattle.liquid_error.specs.meaning.Refusal.{ok_then}
use Rattle.liquid_paths.specs.meaning.Walk.{Path}
use Rattle.liquid_plugins.specs.meaning.Expression.{index}
use Rattle.liquid_plugins.specs.meaning.ExpressionOf.{expression_of, expressions_of}
use Rattle.liquid_plugins.specs.declared.expression.Expression.{Expression}

-- a path after a front, if there is one
abbrev pub try_after : Path → Option Path → Option Path
try_after front o = option_map (λ path. front ++ path) o

-- a path after a front
abbrev pub following : Path → Result Path Refusal → Result Path Refusal
following front r = ok_then r (λ path. Ok (front ++ path))

pub expressions_of-drop : (es : List Expression) (i : ℕ) (e : Expression) → i < length es → e ≡ get_or es i e
    → expressions_of (drop i es) ≡ index (expression_of e) (expressions_of (drop (i + 1) es))
expressions_of-drop es i e within is = ap expressions_of (drop-cons es i e within) ∙ rw (add-one, ← is)
