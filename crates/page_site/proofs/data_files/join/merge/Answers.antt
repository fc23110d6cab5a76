use Rattle.std.proofs.Common.{◌≡◌, ◌∷◌, [], refl, ap, ◌∙◌, sym, rules}
use Rattle.liquid_value.specs.meaning.View.{members_view}
use Rattle.liquid_value.proofs.Entries.{members_view-insert_entry}
use Rattle.page_site.proofs.data_files.join.merge.Goals as goal

pub loop-name-init : goal.loop-name-init
loop-name-init c =
    let rest : c.into_iter-name-iterator.result ≡ c.args.above.entries = search rules in
    (tt, tt, rw rest refl)

pub loop-name-preserved : goal.loop-name-preserved
loop-name-preserved c =
    let left : c.loop-name.name-iterator ≡ (c.in-Some.name, c.in-Some.value) ∷ c.next.new.self = search rules in
    let so_far = rw left at c.loop-name.invariant.2 in
    let inserted = ap members_view c.in_ok-insert.ensures.entries ∙ members_view-insert_entry c.loop-name.both.entries c.in-Some.name
    c.in-Some.value in
    (tt, tt, rw inserted so_far)

pub returns : goal.returns
returns c =
    let none : c.loop-name.name-iterator ≡ [] = search rules in
    sym (rw none at c.loop-name.invariant.2)
