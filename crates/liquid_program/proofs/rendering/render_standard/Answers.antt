use Rattle.std.proofs.Common.{rules, true}
use Rattle.liquid_error.specs.declared.error.Error.{the_lemmas}
use Rattle.liquid_program.proofs.MemoryLemmas.{nothing_in}
use Rattle.liquid_program.proofs.RunLemmas.{standard_rendered}
use Rattle.liquid_program.proofs.rendering.render_standard.Goals as goal

pub returns-in-Ok-clause-renders : goal.returns-in-Ok-clause-renders
returns-in-Ok-clause-renders g c =
    standard_rendered c.args.page _ c.args.text.now _ c.args.partials _ _ _ c.in-Ok.ensures c.render_text.ensures.renders

pub returns-in-Err-clause-renders : goal.returns-in-Err-clause-renders
returns-in-Err-clause-renders g c = nothing_in true c.args.page c.args.text.now _ _ _ _ (search (rules, the_lemmas))
