use Rattle.std.proofs.Common.{rules, ◌≡◌, Some, ◌++◌, ◌∷◌, [], map, option_map, string_bytes, subst, ◌∙◌, ap, sym}
use Rattle.std.proofs.lemmas.List.{map-append}
use Rattle.liquid_value.specs.meaning.View.{object_view}
use Rattle.page_site.specs.meaning.Faults.{partial_text, trouble_of}
use Rattle.page_site.specs.meaning.Layouts.{Broken, IsBroken, Wrapped}
use Rattle.page_site.specs.steps.Wrapping.{StepsTo}
use Rattle.page_site.proofs.WrapLemmas.{break_more, breaks_here, broken_before, if_err, if_some, steps_before, wrap_more, wrapped_whole}
use Rattle.page_site.proofs.layouts.wrap.Goals as goal

pub loop-init : goal.loop-init
loop-init g c = record {
  same = λ text names page answer. answer;
  page = λ page is. rw c.new-seen.ensures.items at is;
  trouble = λ trouble is. rw c.new-seen.ensures.items at is;
}

pub returns-in_err-made-in-Some-clause-trouble : goal.returns-in_err-made-in-Some-clause-trouble
returns-in_err-made-in-Some-clause-trouble g c =
    let before = g.E.Engine.answers c.args.engine.now in
    let partials = partial_text c.args.partials.now in
    let names = object_view c.args.names.now in
    let seen = map string_bytes c.loop.seen.items in
    let name = string_bytes c.in-Some.name in
    let content = string_bytes c.loop.content in
    let fault = c.in_err-made-in-Some.field-0.0 in
    let here : option_map string_bytes c.loop.next ≡ Some name = ap (option_map string_bytes) c.in-Some.is in
    if_err c.from_residual.result fault _ (search rules)
    (if_some (trouble_of fault) _ _ c.in_err-made-in-Some.ensures.trouble
    (λ t broken. c.loop.invariant.trouble t
    (subst (λ next. Broken before partials names seen next content t) (sym here)
    (breaks_here before partials names seen name content t
    (broken_before before (g.E.Engine.answers c.loop.engine) partials names seen name content t c.loop.invariant.same
    (rw c.as_str.ensures.value at (rw c.as_slice.ensures.value at broken)))))))

pub returns-in_err-made-in-Some-clause-same : goal.returns-in_err-made-in-Some-clause-same
returns-in_err-made-in-Some-clause-same g c =
    λ text names page answer. c.loop.invariant.same text names page (c.wrap_once.ensures.same text names page answer)

pub returns-in_err-push-in-Some-clause-same : goal.returns-in_err-push-in-Some-clause-same
returns-in_err-push-in-Some-clause-same g c =
    λ text names page answer. c.loop.invariant.same text names page (c.wrap_once.ensures.same text names page answer)

pub returns-in-None-clause-page : goal.returns-in-None-clause-page
returns-in-None-clause-page g c =
    let before = g.E.Engine.answers c.args.engine.now in
    let partials = partial_text c.args.partials.now in
    let names = object_view c.args.names.now in
    let seen = map string_bytes c.loop.seen.items in
    let content = string_bytes c.loop.content in
    c.loop.invariant.page content
    (subst (λ next. Wrapped before partials names seen next content content) (sym (ap (option_map string_bytes) c.in-None.is))
    (wrapped_whole before partials names seen content))

pub returns-in-None-clause-same : goal.returns-in-None-clause-same
returns-in-None-clause-same g c = c.loop.invariant.same

pub loop-preserved : goal.loop-preserved
loop-preserved g c =
    let before = g.E.Engine.answers c.args.engine.now in
    let partials = partial_text c.args.partials.now in
    let names = object_view c.args.names.now in
    let seen = map string_bytes c.loop.seen.items in
    let name = string_bytes c.in-Some.name in
    let content = string_bytes c.loop.content in
    let made = c.in_ok-made-in-Some.made in
    let here : option_map string_bytes c.loop.next ≡ Some name = ap (option_map string_bytes) c.in-Some.is in
    let steps : StepsTo before partials names seen name content (string_bytes made.content) (option_map string_bytes made.next) =
    steps_before before (g.E.Engine.answers c.loop.engine) partials names seen name content (string_bytes made.content)
    (option_map string_bytes made.next) c.loop.invariant.same
    (rw c.as_str.ensures.value at (rw c.as_slice.ensures.value at c.in_ok-made-in-Some.ensures.wraps)) in
    let pushed : c.push.new.self.items ≡ c.loop.seen.items ++ c.in-Some.name ∷ [] = search rules in
    let more : map string_bytes c.push.new.self.items ≡ seen ++ name ∷ [] =
    ap (map string_bytes) pushed ∙ map-append string_bytes c.loop.seen.items (c.in-Some.name ∷ []) in
    record {
      same = λ text names page answer. c.loop.invariant.same text names page (c.wrap_once.ensures.same text names page answer);
      page = λ page is. c.loop.invariant.page page
          (subst (λ next. Wrapped before partials names seen next content page) (sym here)
          (wrap_more before partials names seen name content (string_bytes made.content) (option_map string_bytes made.next) page steps
          (subst (λ s. Wrapped before partials names s (option_map string_bytes made.next) (string_bytes made.content) page) more is)));
      trouble = λ t is. c.loop.invariant.trouble t
          (subst (λ next. Broken before partials names seen next content t) (sym here)
          (break_more before partials names seen name content (string_bytes made.content) (option_map string_bytes made.next) t steps
          (subst (λ s. Broken before partials names s (option_map string_bytes made.next) (string_bytes made.content) t) more is)));
    }

pub returns-clause-same : goal.returns-clause-same
returns-clause-same g c = c.loop.invariant.same
