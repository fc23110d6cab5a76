use Rattle.std.proofs.Common.{◌≡◌, map, rules, arith, sym, ap, ◌∙◌}
use Rattle.std.proofs.lemmas.Grind.{common_steps}
use Rattle.std.proofs.lemmas.Result.{IfOk-weaker}
use Rattle.serde_json.specs.View.{view as json_view, items_of, members_view as json_members}
use Rattle.liquid_value.specs.meaning.View.{view}
use Rattle.liquid_json.specs.meaning.Shown.{value_shown}
use Rattle.liquid_json.specs.steps.Named.{json_entry, shown_entry}
use Rattle.liquid_json.proofs.Names.{same_order}
use Rattle.liquid_json.proofs.Shown.{members_shown-listed, names_shown, items_shown-map}
use Rattle.liquid_json.proofs.write.+write.Goals as goal

pub from_items-returns : goal.from_items-returns
from_items-returns t c =
    let all : map json_view c.loop-item.shown.items ≡ map (λ v. value_shown (view v)) c.args.items.now.items =
    first_of (search rules, grind (arith, common_steps)) in
    ap items_of all ∙ sym (items_shown-map c.args.items.now.items)

pub from_entries-returns-clause-order : goal.from_entries-returns-clause-order
from_entries-returns-clause-order t c =
    let all : map json_entry c.loop-name.entries.items ≡ map shown_entry c.args.members.now.entries =
    first_of (search rules, grind (arith, common_steps)) in
    same_order c.loop-name.entries.items c.args.members.now.entries
    (names_shown c.loop-name.entries.items c.args.members.now.entries all) c.iter-name-items.ensures.ordered

pub from_members-returns : goal.from_members-returns
from_members-returns t c =
    let listed = c.in_ok-from_entries.field-0.items in
    IfOk-weaker c.map_in_order.result (λ m. json_members m.entries ≡ json_members listed) _
    (λ m same. same ∙ members_shown-listed listed c.args.members.now.entries c.in_ok-from_entries.ensures.shown) c.map_in_order.ensures
