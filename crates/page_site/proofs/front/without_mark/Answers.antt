use Rattle.page_site.proofs.front.without_mark.Goals as goal

pub returns-in-Some : goal.returns-in-Some
returns-in-Some c =
    let cut = rw c.in-Some.is at c.strip_prefix.ensures.cases in
    (cut.0, cut.2)
