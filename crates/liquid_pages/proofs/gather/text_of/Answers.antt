use Rattle.std.proofs.Common.{Ok, sym, ap, ◌∙◌}
use Rattle.liquid_pages.proofs.ShownLemmas.{no_text_is, text_is}
use Rattle.liquid_pages.proofs.gather.text_of.Goals as goal

pub returns-in-Ok-clause-text : goal.returns-in-Ok-clause-text
returns-in-Ok-clause-text c = text_is c.args.which c.args.bytes.now c.in-Ok.ensures.cases.1 ∙ ap Ok (sym c.in-Ok.ensures.cases.0)

pub returns-in-Err-clause-text : goal.returns-in-Err-clause-text
returns-in-Err-clause-text c = no_text_is c.args.which c.args.bytes.now c.in-Err.ensures.cases.0
