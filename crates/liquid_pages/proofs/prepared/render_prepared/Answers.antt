use Rattle.std.proofs.Common.{subst}
use Rattle.liquid_pages.specs.declared.fault.PageText.TheVariants.{Template}
use Rattle.liquid_pages.specs.meaning.Faults.{and_then, text_read}
use Rattle.liquid_pages.specs.meaning.Prepared.{IsPrepared}
use Rattle.liquid_pages.specs.meaning.Shown.{names_read, partials_over}
use Rattle.liquid_pages.proofs.ShownSteps.{step_on, stops_shown}
use Rattle.liquid_pages.proofs.prepared.render_prepared.Goals as goal

pub returns-in-Ok-clause-prepared : goal.returns-in-Ok-clause-prepared
returns-in-Ok-clause-prepared g c = λ l text partials prepared.
    let p = subst (IsPrepared _ _ l text partials) c.in-Some.is prepared in
    (p.0, c.render_texts.ensures.prepared l text partials p.1)

pub returns-in-Err-clause-shows : goal.returns-in-Err-clause-shows
returns-in-Err-clause-shows g c = λ l text partials prepared shown comes.
    let p = subst (IsPrepared _ _ l text partials) c.in-Some.is prepared in
    stops_shown _ l c.args.options shown (names_read c.args.options.decimals c.args.globals.now)
    (λ names. partials_over text names partials) c.in-Err.fault _ _ c.nothing.ensures.output c.nothing.ensures.end c.in-Err.ensures
    (step_on _ l c.args.options shown (text_read Template text) text
    (λ t. and_then (names_read c.args.options.decimals c.args.globals.now) (λ names. partials_over t names partials)) p.0 comes)
