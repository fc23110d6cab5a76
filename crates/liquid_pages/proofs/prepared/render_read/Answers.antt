use Rattle.std.proofs.Common.{Some}
use Rattle.liquid_pages.proofs.ShownLemmas.{nodes_shown}
use Rattle.liquid_pages.proofs.prepared.render_read.Goals as goal

pub returns-clause-shows : goal.returns-clause-shows
returns-clause-shows g c = λ l texts found shown comes.
    nodes_shown _ l c.args.options _ _ _ _ _ _ _ c.new-output.ensures c.page_answer.ensures
    (c.render_over_store-answer.ensures.renders l (Some texts) (rw c.replace-used.ensures.value found)) shown comes
