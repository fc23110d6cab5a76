use Rattle.liquid_program.specs.meaning.Command.{asked_of}
use Rattle.liquid_program.specs.meaning.Requests.{command_steps}
use Rattle.liquid_program.proofs.RequestsLemmas.{followed_then}
use Rattle.liquid_program.proofs.write.write_page.Goals as goal

pub returns-in-Ok-clause-requests : goal.returns-in-Ok-clause-requests
returns-in-Ok-clause-requests g c = λ all folders known listed.
    followed_then (command_steps all folders (asked_of c.args.command).choices.options.decimals (asked_of c.args.command).paths
    (asked_of c.args.command).choices.ending)
    (g.F.Folder.requests c.args.files.now) (g.F.Folder.requests c.print-answer.new.files) (g.F.Folder.requests c.land.new.files)
    c.print-answer.result c.land.result c.land.ensures.trouble c.land.ensures.memory c.land.ensures.requests
    (c.print-answer.ensures.requests all folders known listed)
