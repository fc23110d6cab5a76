use Rattle.std.proofs.Common.{sym, ap, ◌∙◌, option_map}
use Rattle.liquid_error.specs.declared.error.Error.{Error}
use Rattle.liquid_error.specs.meaning.Refusal.{with_cause}
use Rattle.liquid_error.specs.meaning.Told.{told, reason_of}
use Rattle.liquid_error.proofs.Causes.{told_caused, told_recaused}
use Rattle.liquid_error.proofs.error.Error.cause.Goals as goal

pub returns : goal.returns
returns c =
    told_caused c.in-Liquid.report c.args.cause
    ∙ sym (told_recaused c.in-Liquid.report c.in-Liquid.field-1 (reason_of c.args.cause))
    ∙ ap (λ (e : Error). option_map (with_cause (reason_of c.args.cause)) (told e)) (sym c.in-Liquid.is)
