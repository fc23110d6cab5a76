use Rattle.std.proofs.Common.{rules, ◌≡◌, map}
use Rattle.liquid_value.specs.meaning.View.{object_view}
use Rattle.page_site.specs.meaning.Faults.{partial_text}
use Rattle.page_site.specs.meaning.Items.{item_of}
use Rattle.page_site.proofs.ItemLemmas.{item_written}
use Rattle.page_site.proofs.writing.write_one.Goals as goal

pub returns-clause-written : goal.returns-clause-written
returns-clause-written g c =
    item_written (g.E.Engine.answers c.args.engine.now) (partial_text c.args.site.now.partials.value) (object_view c.args.site.now.names)
    (item_of c.args.item.now) (g.F.Folder.known c.args.files.now) (g.F.Folder.known c.write_item-answer.new.files)
    (g.F.Folder.known c.report.new.files) c.report.result c.write_item-answer.result c.write_item-answer.ensures.written
    c.write_item-answer.ensures.kept c.report.ensures.same c.report.ensures.ok c.report.ensures.fault
