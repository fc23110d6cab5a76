use Rattle.std.proofs.Common.{◌≡◌, ◌∷◌, subst}
use Rattle.std.specs.Prelude.{IfSome, codes}
use Rattle.liquid_error.specs.meaning.Told.{told}
use Rattle.liquid_parser.specs.meaning.Reading.{refused_at}
use Rattle.liquid_parser.proofs.cursor.element.InvalidLiquidToken.refusal.Goals as goal

pub returns : goal.returns
returns c source following is =
    subst (λ s. IfSome (told c.no_expression.result) (λ r. r ≡ refused_at s (codes "Invalid liquid") (123 ∷ following))) is.source_is
    (c.no_expression.ensures following is.brace_is)
