use Rattle.std.proofs.Common.{length, sym}
use Rattle.std.proofs.Math.Seq.{drop-length}
use Rattle.page_site.proofs.front.first_line.Goals as goal

pub returns-in-Some-clause-follows : goal.returns-in-Some-clause-follows
returns-in-Some-clause-follows c =
    let cut = rw c.in-Some.is at c.split_once.ensures.cases in
    (cut.1, cut.4)

pub returns-in-None-clause-follows : goal.returns-in-None-clause-follows
returns-in-None-clause-follows c = (length c.args.text.now, sym (drop-length c.args.text.now))
