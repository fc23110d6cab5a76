use Rattle.liquid_c.proofs.TurnLemmas.{all_leave}
use Rattle.liquid_c.proofs.each.render_each_in.Goals as goal

pub returns : goal.returns
returns g c =
    all_leave (λ globals old new o leaves page comes. leaves page
    (record { l = _; text = _; partials = _; prepared = c.prepare_page-prepared.ensures; comes = comes }))
    (rw c.page_options-options.ensures at c.render_turns.ensures)
