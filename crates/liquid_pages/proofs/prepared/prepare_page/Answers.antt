use Rattle.std.proofs.Common.{Ok, ap, sym, ◌∙◌}
use Rattle.liquid_pages.specs.declared.fault.PageText.TheVariants.{Template}
use Rattle.liquid_pages.proofs.PreparedLemmas.{refused_text, same_text}
use Rattle.liquid_pages.proofs.prepared.prepare_page.Goals as goal

pub returns-in-Ok : goal.returns-in-Ok
returns-in-Ok g c =
    let same = same_text Template c.args.text.now _ c.in-Ok.ensures.text in
    (c.in-Ok.ensures.text ∙ ap Ok same, rw (sym same) c.read_partials.ensures)

pub returns-in-Err : goal.returns-in-Err
returns-in-Err g c = refused_text Template _ _ c.in-Err.ensures.fault c.in-Err.ensures.text
