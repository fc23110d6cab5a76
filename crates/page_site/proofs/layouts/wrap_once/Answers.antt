use Rattle.std.proofs.Common.{rules, ◌≡◌, Some, false, map, option_map, string_bytes}
use Rattle.liquid_value.specs.meaning.View.{members_view, object_view}
use Rattle.page_site.specs.meaning.Faults.{partial_text, trouble_of}
use Rattle.page_site.specs.meaning.Front.{Splits}
use Rattle.page_site.specs.meaning.Layouts.{IsBroken, is_among, layout_path, with_content}
use Rattle.page_site.proofs.WrapLemmas.{bad_front_breaks, if_err, if_it_is}
use Rattle.page_site.proofs.layouts.wrap_once.Goals as goal

pub returns-in_err-content-in-Some-clause-trouble :
    goal.returns-in_err-content-in-Some-clause-trouble
returns-in_err-content-in-Some-clause-trouble g c =
    let answers = g.E.Engine.answers c.args.engine.now in
    let partials = partial_text c.args.partials.now in
    let names = object_view c.args.names.now in
    let name = c.args.name.now in
    let front = c.in_ok-front-in-Some.front in
    let matter = option_map (λ m. members_view m.entries) front.matter in
    let fault = c.in_err-content-in-Some.field-0.0 in
    let found : partials (layout_path name) ≡ Some c.in-Some.text.now = search rules in
    let splits : Splits c.in-Some.text.now matter front.body.now = search rules in
    if_err c.from_residual-in_err-content-in-Some.result fault
    (IsBroken answers partials names (map string_bytes c.args.seen.now) name (string_bytes c.args.content)) (search rules)
    (if_it_is (trouble_of fault) _ _ _ c.in_err-content-in-Some.ensures.trouble
    (λ answer. (
      record { whole = c.in-Some.text.now; matter = matter; body = front.body.now },
      found,
      splits,
      rw c.in_ok-names-in-Some.ensures at answer,
    )))

pub returns-in_ok-content-in-Some-clause-wraps : goal.returns-in_ok-content-in-Some-clause-wraps
returns-in_ok-content-in-Some-clause-wraps g c =
    let answers = g.E.Engine.answers c.args.engine.now in
    let partials = partial_text c.args.partials.now in
    let front = c.in_ok-front-in-Some.front in
    let matter = option_map (λ m. members_view m.entries) front.matter in
    let new : is_among c.args.name.now (map string_bytes c.args.seen.now) ≡ false = search rules in
    let found : partials (layout_path c.args.name.now) ≡ Some c.in-Some.text.now = search rules in
    let splits : Splits c.in-Some.text.now matter front.body.now = search rules in
    let answer : answers front.body.now (with_content (string_bytes c.args.content) (object_view c.args.names.now))
    (Some (string_bytes c.in_ok-content-in-Some.content)) =
    rw c.in_ok-names-in-Some.ensures at c.in_ok-content-in-Some.ensures.renders in
    (record { whole = c.in-Some.text.now; matter = matter; body = front.body.now }, (new, found, splits, answer), search rules)

pub returns-in_err-front-in-Some-clause-trouble : goal.returns-in_err-front-in-Some-clause-trouble
returns-in_err-front-in-Some-clause-trouble g c =
    let answers = g.E.Engine.answers c.args.engine.now in
    let partials = partial_text c.args.partials.now in
    let names = object_view c.args.names.now in
    let name = c.args.name.now in
    let fault = c.in_err-front-in-Some.field-0.0 in
    let found : partials (layout_path name) ≡ Some c.in-Some.text.now = search rules in
    if_err c.from_residual-in_err-front-in-Some.result fault
    (IsBroken answers partials names (map string_bytes c.args.seen.now) name (string_bytes c.args.content)) (search rules)
    (bad_front_breaks answers partials names (map string_bytes c.args.seen.now) name (string_bytes c.args.content) (trouble_of fault)
    c.in-Some.text.now found c.in_err-front-in-Some.ensures.trouble)
