use Rattle.std.proofs.Common.{rules}
use Rattle.liquid_program.proofs.RunLemmas.{Printed-settled}
use Rattle.liquid_program.specs.meaning.Command.{asked_of}
use Rattle.liquid_program.specs.meaning.Requests.{command_steps}
use Rattle.liquid_program.proofs.RequestsLemmas.{follows_follow}
use Rattle.liquid_program.proofs.run.print.Goals as goal

pub returns-clause-prints : goal.returns-clause-prints
returns-clause-prints g c =
    Printed-settled _ _ _ _ _ _ _ _ _ c.execute-answer.ensures.executes c.new-sink.ensures.taken c.new-sink.ensures.failures
    c.new-sink.ensures.destination
    c.execute-answer.ensures.borrows c.execute-answer.ensures.destination c.into_inner.ensures.destination
    (search rules) c.settle.ensures.status

pub returns-clause-requests : goal.returns-clause-requests
returns-clause-requests g c = λ all folders known listed.
    follows_follow (command_steps all folders (asked_of c.args.command).choices.options.decimals (asked_of c.args.command).paths
    (asked_of c.args.command).choices.ending)
    (g.F.Folder.requests c.args.files.now) (g.F.Folder.requests c.execute-answer.new.files)
    c.execute-answer.result c.settle.result c.settle.ensures.trouble c.settle.ensures.memory
    (c.execute-answer.ensures.requests all folders known listed)
