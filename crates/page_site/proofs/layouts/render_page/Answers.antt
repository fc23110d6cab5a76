use Rattle.std.proofs.Common.{rules, ◌≡◌, Some, Ok, [], map, option_map, string_bytes, subst, sym, IfOk, List, ℕ}
use Rattle.liquid_value.specs.meaning.View.{members_view, object_view}
use Rattle.page_site.specs.meaning.Faults.{partial_text}
use Rattle.page_site.specs.meaning.Front.{Splits}
use Rattle.page_site.specs.meaning.Layouts.{IsPage, with_page}
use Rattle.page_site.proofs.WrapLemmas.{page_broken, page_wrapped}
use Rattle.page_site.proofs.layouts.render_page.Goals as goal

pub returns-clause-page : goal.returns-clause-page
returns-clause-page g c =
    let front = c.in_ok-front.front in
    let matter = option_map (λ m. members_view m.entries) front.matter in
    page_wrapped (g.E.Engine.answers c.args.engine.now) (g.E.Engine.answers c.render.new.engine) (partial_text c.args.partials.now)
    (object_view c.args.names.now) c.args.text.now matter front.body.now (string_bytes c.in_ok-content.content)
    (object_view c.in_ok-names.names) (option_map string_bytes c.in_ok-next.next) c.wrap.result c.render.ensures.same
    c.in_ok-front.ensures.splits c.in_ok-names.ensures c.in_ok-next.ensures
    (rw c.in_ok-own.ensures at c.in_ok-content.ensures.renders) c.wrap.ensures.page

pub returns-clause-trouble : goal.returns-clause-trouble
returns-clause-trouble g c =
    let front = c.in_ok-front.front in
    let matter = option_map (λ m. members_view m.entries) front.matter in
    page_broken (g.E.Engine.answers c.args.engine.now) (g.E.Engine.answers c.render.new.engine) (partial_text c.args.partials.now)
    (object_view c.args.names.now) c.args.text.now matter front.body.now (string_bytes c.in_ok-content.content)
    (object_view c.in_ok-names.names) (option_map string_bytes c.in_ok-next.next) c.wrap.result c.render.ensures.same
    c.in_ok-front.ensures.splits c.in_ok-names.ensures c.in_ok-next.ensures
    (rw c.in_ok-own.ensures at c.in_ok-content.ensures.renders) c.wrap.ensures.trouble
