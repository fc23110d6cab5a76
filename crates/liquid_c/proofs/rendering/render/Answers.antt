use Rattle.std.proofs.Common.{refl, inl}
use Rattle.liquid_c.proofs.AskedLemmas.{jekyll_asked, memory_asked, momentless_asked, none_asked, plain_asked, standard_asked}
use Rattle.liquid_c.proofs.LeavesLemmas.{nothing_left}
use Rattle.liquid_c.proofs.rendering.render.Goals as goal

pub returns-in-NoOptions : goal.returns-in-NoOptions
returns-in-NoOptions c =
    none_asked c.args.page.now c.args.page.now.globals.now _ _ _ c.choose_language.result c.choose_language.ensures c.in-NoOptions.is
    (c.refusal.ensures, refl)

pub returns-in-NoMoment : goal.returns-in-NoMoment
returns-in-NoMoment c =
    momentless_asked c.args.page.now c.args.page.now.globals.now _ _ _ c.choose_language.result c.choose_language.ensures c.in-NoMoment.is
    (inl c.refuse_moment.ensures, refl)

pub returns-in-NoMemory : goal.returns-in-NoMemory
returns-in-NoMemory c =
    memory_asked c.args.page.now c.args.page.now.globals.now _ _ _ c.choose_language.result c.choose_language.ensures c.in-NoMemory.is
    c.refusal-in-NoMemory.ensures refl (λ page. nothing_left page _ _ _ c.refusal-in-NoMemory.ensures refl)

pub returns-in-Plain : goal.returns-in-Plain
returns-in-Plain c =
    plain_asked c.args.page.now c.args.page.now.globals.now _ _ _ c.choose_language.result c.choose_language.ensures _ c.in-Plain.is
    c.render_in.ensures

pub returns-in-Standard : goal.returns-in-Standard
returns-in-Standard c =
    standard_asked c.args.page.now c.args.page.now.globals.now _ _ _ c.choose_language.result c.choose_language.ensures _ c.in-Standard.is
    c.render_in-in-Standard.ensures

pub returns-in-Jekyll : goal.returns-in-Jekyll
returns-in-Jekyll c =
    jekyll_asked c.args.page.now c.args.page.now.globals.now _ _ _ c.choose_language.result c.choose_language.ensures _ c.in-Jekyll.is
    c.render_jekyll.ensures
