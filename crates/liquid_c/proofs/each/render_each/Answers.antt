use Rattle.std.proofs.Common.{inl, ◌∙◌}
use Rattle.liquid_c.proofs.AskedLemmas.{jekyll_asked, memory_asked, momentless_asked, none_asked, plain_asked, standard_asked}
use Rattle.liquid_c.proofs.LeavesLemmas.{nothing_left}
use Rattle.liquid_c.proofs.TurnLemmas.{all_leave}
use Rattle.liquid_c.proofs.each.render_each.Goals as goal

pub returns-in-NoOptions : goal.returns-in-NoOptions
returns-in-NoOptions c =
    all_leave (λ globals old new o left. none_asked c.args.page.now globals old new o c.choose_language.result c.choose_language.ensures
    c.in-NoOptions.is (left.0 ∙ c.refusal.ensures, left.1)) (c.refuse_each.ensures c.args.out.now)

pub returns-in-NoMoment : goal.returns-in-NoMoment
returns-in-NoMoment c =
    all_leave (λ globals old new o left. momentless_asked c.args.page.now globals old new o c.choose_language.result
    c.choose_language.ensures c.in-NoMoment.is (inl (left.0 ∙ c.refuse_moment.ensures), left.1))
    (c.refuse_each-in-NoMoment.ensures c.args.out.now)

pub returns-in-NoMemory : goal.returns-in-NoMemory
returns-in-NoMemory c =
    all_leave (λ globals old new o left. memory_asked c.args.page.now globals old new o c.choose_language.result
    c.choose_language.ensures c.in-NoMemory.is (left.0 ∙ c.refusal-in-NoMemory.ensures) left.1
    (λ page. nothing_left page old new o (left.0 ∙ c.refusal-in-NoMemory.ensures) left.1))
    (c.refuse_each-in-NoMemory.ensures c.args.out.now)

pub returns-in-Plain : goal.returns-in-Plain
returns-in-Plain c =
    all_leave (λ globals old new o leaves. plain_asked c.args.page.now globals old new o c.choose_language.result c.choose_language.ensures
    _ c.in-Plain.is leaves) c.render_each_in.ensures

pub returns-in-Standard : goal.returns-in-Standard
returns-in-Standard c =
    all_leave (λ globals old new o leaves. standard_asked c.args.page.now globals old new o c.choose_language.result
    c.choose_language.ensures _ c.in-Standard.is leaves) c.render_each_in-in-Standard.ensures

pub returns-in-Jekyll : goal.returns-in-Jekyll
returns-in-Jekyll c =
    all_leave (λ globals old new o leaves. jekyll_asked c.args.page.now globals old new o c.choose_language.result
    c.choose_language.ensures _ c.in-Jekyll.is leaves) c.render_each_jekyll.ensures
