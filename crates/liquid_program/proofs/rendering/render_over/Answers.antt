use Rattle.std.proofs.Common.{true, false}
use Rattle.liquid_program.proofs.RunLemmas.{chosen_rendered}
use Rattle.liquid_program.proofs.rendering.render_over.Goals as goal

pub returns-then-options-clause-renders : goal.returns-then-options-clause-renders
returns-then-options-clause-renders g c =
    chosen_rendered c.args.options true _ c.args.text.now _ _ _ _ _ c.if-options.true c.page_options-page.ensures
    c.render_standard.ensures.renders

pub returns-else-options-clause-renders : goal.returns-else-options-clause-renders
returns-else-options-clause-renders g c =
    chosen_rendered c.args.options false _ c.args.text.now _ _ _ _ _ c.if-options.false c.page_options-page.ensures
    c.render_plain.ensures.renders
