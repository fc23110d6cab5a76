use Rattle.std.proofs.Common.{◌≡◌, ◌==◌, ap, map, rules, string_bytes, sym, true, false, ◌∙◌}
use Rattle.std.specs.Prelude.{if◌then◌else◌}
use Rattle.liquid_program.specs.meaning.Status.{exit_status}
use Rattle.liquid_program.specs.meaning.Written.{first_fault}
use Rattle.liquid_program.specs.meaning.PagesCommand.{asked_pages}
use Rattle.liquid_program.proofs.PagesLemmas.{each_more}
use Rattle.liquid_program.proofs.pages.+write_each.Goals as goal
use Rattle.liquid_program.proofs.pages.+write_each.Goals.{then-status-eq0, else-status-eq0}

pub returns-after-status-eq0-clause-writes : goal.returns-after-status-eq0-clause-writes
returns-after-status-eq0-clause-writes g t c =
    let one = exit_status c.write_one-answer.result in
    let next : c.if-status-eq0.status ≡ first_fault c.args.status one =
    elim c.if-status-eq0.branch [
      | then-status-eq0 w ↦
          let yes : (c.args.status == 0) ≡ true = search rules in
          w.status-is ∙ c.report-one.ensures.status ∙ sym (ap (λ b. if b then one else c.args.status) yes)
      | else-status-eq0 w ↦
          let no : (c.args.status == 0) ≡ false = search rules in
          w.status-is ∙ sym (ap (λ b. if b then one else c.args.status) no)
    ] in
    each_more c.args.json.now (asked_pages c.args.pages) c.args.partials.now (map string_bytes c.args.templates.now)
    (map string_bytes c.in-Some.rest.now) (string_bytes c.in-Some.template.now) (g.F.Folder.known c.args.files.now)
    (g.F.Folder.known c.announce.new.self) (g.F.Folder.known c.write_one-answer.new.files) (g.F.Folder.known c.report-one.new.files)
    (g.F.Folder.known c.write_each.new.files)
    c.args.status one c.if-status-eq0.status c.write_each.result (search rules) c.announce.ensures.same c.report-one.ensures.same next
    (rw c.as_str-template.ensures.value at c.write_one-answer.ensures.writes) c.write_each.ensures.writes
