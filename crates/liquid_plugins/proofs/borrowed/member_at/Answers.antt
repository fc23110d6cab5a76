use Rattle.liquid_plugins.proofs.BorrowedValues.{member_made}
use Rattle.liquid_plugins.proofs.borrowed.member_at.Goals as goal

pub returns-clause-made : goal.returns-clause-made
returns-clause-made c = member_made c.args.counts.place c.args.counts.size c.args.word.now _ c.in_ok-part.ensures
