use Rattle.std.proofs.Common.{rules}
use Rattle.liquid_error.specs.declared.error.Error.{the_lemmas}
use Rattle.liquid_pages.proofs.PageLemmas.{nothing_rendered}
use Rattle.liquid_pages.proofs.rendering.render_template.Goals as goal

pub returns-in-Ok-clause-renders : goal.returns-in-Ok-clause-renders
returns-in-Ok-clause-renders g c = c.render_over_store-answer.ensures.renders _ _ c.in-Ok.ensures

pub returns-in-Err-clause-renders : goal.returns-in-Err-clause-renders
returns-in-Err-clause-renders g c = nothing_rendered _ _ c.args.options _ _ _ _ _ (search (rules, the_lemmas))
