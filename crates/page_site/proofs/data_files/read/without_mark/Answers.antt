use Rattle.std.proofs.Common.{◌++◌, sym, ap, ◌∙◌}
use Rattle.page_site.proofs.Marks.{order_mark, kept, stripped}
use Rattle.page_site.proofs.data_files.read.without_mark.Goals as goal

pub returns-in-Some : goal.returns-in-Some
returns-in-Some c =
    let (n, found, is, size) = c.in-Some.ensures.cases in
    stripped c.args.text.now c.in-Some.rest.now (found.1 ∙ ap (λ y. order_mark ++ y) (sym is))

pub returns-in-None : goal.returns-in-None
returns-in-None c = kept c.args.text.now c.in-None.ensures.cases
