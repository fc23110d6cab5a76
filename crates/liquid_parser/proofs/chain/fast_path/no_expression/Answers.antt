use Rattle.std.proofs.Common.{◌≡◌, subst}
use Rattle.std.specs.Prelude.{IfSome, codes}
use Rattle.liquid_error.specs.meaning.Told.{told}
use Rattle.liquid_parser.specs.meaning.Reading.{refused_at}
use Rattle.liquid_parser.proofs.chain.fast_path.no_expression.Goals as goal

pub returns : goal.returns
returns c following is =
    subst (λ place. IfSome (told c.error_at.result) (λ r. r ≡ refused_at c.args.source.now (codes "Invalid liquid") place)) is
    c.error_at.ensures
