use Rattle.std.proofs.Common.{rules, ◌≡◌, ◌∙◌, subst, string_bytes}
use Rattle.liquid_files.specs.meaning.Files.{Replaces}
use Rattle.page_site.proofs.ItemLemmas.{Files}
use Rattle.page_site.proofs.writing.write_item.Goals as goal

pub returns-in-Ok-clause-written : goal.returns-in-Ok-clause-written
returns-in-Ok-clause-written g c =
    let made = c.in_ok-made.made in
    let target = string_bytes c.args.item.now.target in
    let replaced : Replaces (g.F.Folder.known c.make_folders.new.self) (g.F.Folder.known c.replace.new.self) target made.items =
    search rules in (
      made.items,
      c.in_ok-made.ensures.made,
      subst (λ (k : Files). Replaces k (g.F.Folder.known c.replace.new.self) target made.items)
          (c.make_folders.ensures.same ∙ c.announce.ensures.same ∙ c.make.ensures.same) replaced,
    )
