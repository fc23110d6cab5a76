use Rattle.std.proofs.Common.{◌∙◌}
use Rattle.liquid_strings.proofs.CutLemmas.{cuts_at}
use Rattle.liquid_strings.proofs.truncation.cut.Goals as goal

pub overflow_sub-text : goal.overflow_sub-text
overflow_sub-text c = (cuts_at c.args.text.now c.rest_after-back.result.now c.args.count c.utf8.text c.rest_after-back.ensures).fits

pub split_at-requires : goal.split_at-requires
split_at-requires c = (cuts_at c.args.text.now c.rest_after-back.result.now c.args.count c.utf8.text c.rest_after-back.ensures).cut

pub returns-clause-front : goal.returns-clause-front
returns-clause-front c = c.split_at.ensures.front
    ∙ (cuts_at c.args.text.now c.rest_after-back.result.now c.args.count c.utf8.text c.rest_after-back.ensures).front
