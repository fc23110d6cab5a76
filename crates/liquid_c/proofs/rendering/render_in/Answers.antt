use Rattle.liquid_c.proofs.rendering.render_in.Goals as goal

pub returns : goal.returns
returns g c = λ page comes. c.finish.ensures.leaves page (c.render_page-rendered.ensures page (rw c.page_options-options.ensures comes))
