use Rattle.std.specs.Str.{chars}
use Rattle.liquid_dates.proofs.FormatLemmas.{spelled, directive_printed}
use Rattle.liquid_dates.proofs.format.write_directive_at.Goals as goal

pub front_of-spelling-requires : goal.front_of-spelling-requires
front_of-spelling-requires c =
    spelled (chars c.args.text.now) c.in_ok-conversion.conversion c.in_ok-conversion.rest c.in_ok-conversion.ensures

pub returns-clause-ok : goal.returns-clause-ok
returns-clause-ok c =
    directive_printed _ (chars c.args.text.now) c.in_ok-conversion.conversion c.in_ok-conversion.rest _ _ _ c.in_ok-conversion.ensures
    (λ front e. c.front_of-spelling.ensures front e) c.in_ok-write_conversion.ensures
