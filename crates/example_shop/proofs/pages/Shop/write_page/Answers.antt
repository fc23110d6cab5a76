use Rattle.example_shop.proofs.pages.Shop.write_page.Goals as goal

pub returns-clause-shown : goal.returns-clause-shown
returns-clause-shown g c = λ answer reads. c.render_source.ensures.rendered answer (rw c.deref.ensures reads)
