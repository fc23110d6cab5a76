use Rattle.std.proofs.Common.{Ok, sym, ap, ◌∙◌}
use Rattle.liquid_error.specs.meaning.Told.{told}
use Rattle.liquid_filters.specs.meaning.Dates.{printed}
use Rattle.liquid_filters.proofs.DateSteps.{formatted_is, refused}
use Rattle.liquid_jekyll.proofs.dates.print_moment.Goals as goal

pub returns-in-Ok : goal.returns-in-Ok
returns-in-Ok c =
    ap (printed c.args.pattern.now) (formatted_is c.args.moment.now c.args.pattern.now _ c.in-Ok.ensures.text)
    ∙ ap Ok (sym c.text_value.ensures)

pub returns-in-Err : goal.returns-in-Err
returns-in-Err c =
    refused c.args.moment.now c.args.pattern.now c.in-Err.error (told c.pattern_error.result) c.in-Err.ensures.refused
    c.pattern_error.ensures
