use Rattle.std.proofs.Common.{rules, ◌≡◌, ◌==◌, ◌∷◌, ap, map, sym, true, false, ◌∙◌}
use Rattle.std.specs.Prelude.{if◌then◌else◌}
use Rattle.liquid_value.specs.meaning.View.{object_view}
use Rattle.page_site.specs.meaning.Faults.{partial_text}
use Rattle.page_site.specs.meaning.Items.{item_of}
use Rattle.page_site.proofs.ItemLemmas.{items_written}
use Rattle.page_site.proofs.writing.+write_each.Goals as goal
use Rattle.page_site.proofs.writing.+write_each.Goals.{then-status-eq0, else-status-eq0}

pub returns-after-status-eq0-clause-written : goal.returns-after-status-eq0-clause-written
returns-after-status-eq0-clause-written g t c =
    let one = c.write_one-one.result in
    let next : c.if-status-eq0.status ≡ (if c.args.status == 0 then one else c.args.status) =
    elim c.if-status-eq0.branch [
      | then-status-eq0 w ↦
          let yes : (c.args.status == 0) ≡ true = search rules in
          w.status-is ∙ sym (ap (λ b. if b then one else c.args.status) yes)
      | else-status-eq0 w ↦
          let no : (c.args.status == 0) ≡ false = search rules in
          w.status-is ∙ sym (ap (λ b. if b then one else c.args.status) no)
    ] in
    let all : map item_of c.args.items.now ≡ item_of c.in-Some.item.now ∷ map item_of c.in-Some.rest.now = search rules in
    items_written (g.E.Engine.answers c.args.engine.now) (g.E.Engine.answers c.write_one-one.new.engine)
    (partial_text c.args.site.now.partials.value) (object_view c.args.site.now.names) (map item_of c.args.items.now)
    (item_of c.in-Some.item.now) (map item_of c.in-Some.rest.now) (g.F.Folder.known c.args.files.now)
    (g.F.Folder.known c.write_one-one.new.files) (g.F.Folder.known c.write_each.new.files) c.args.status one
    c.if-status-eq0.status c.write_each.result all c.write_one-one.ensures.answers
    c.write_one-one.ensures.written next c.write_each.ensures.written
