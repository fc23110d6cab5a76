use Rattle.std.proofs.Common.{ap, ◌∙◌}
use Rattle.liquid_runtime.specs.meaning.LoopNames.{forloop}
use Rattle.liquid_value.specs.meaning.View.{view}
use Rattle.liquid_plugins.specs.meaning.ExpressionOf.{expressions_of}
use Rattle.liquid_plugins.specs.steps.LiteralWalk.{literal_walk}
use Rattle.liquid_plugins.proofs.BorrowedValues.{literals_lead}
use Rattle.liquid_plugins.proofs.borrowed.loop_member.Goals as goal

pub returns-clause-gives : goal.returns-clause-gives
returns-clause-gives g c =
    let t = forloop c.args.counts.place c.args.counts.size in
    literals_lead (g.R.Runtime.view c.args._runtime.now) t (view c.in_ok-part.part) (expressions_of c.args.indexes.now.items)
    (ap (literal_walk t) c.in_ok-word.ensures ∙ c.in_ok-part.ensures.walks)
