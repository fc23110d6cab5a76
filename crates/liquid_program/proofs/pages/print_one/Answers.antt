use Rattle.std.proofs.Common.{rules}
use Rattle.std.specs.Prelude.{⊤}
use Rattle.liquid_pages.specs.meaning.Globals.{json_object}
use Rattle.liquid_program.proofs.PagesLemmas.{maybe_globals}
use Rattle.liquid_program.proofs.RunLemmas.{Printed-settled}
use Rattle.liquid_program.proofs.pages.print_one.Goals as goal

pub returns-clause-prints : goal.returns-clause-prints
returns-clause-prints g c =
    maybe_globals (json_object c.args.pages.options.decimals c.args.json.now) ⊤ _ _
    (λ globals executed. Printed-settled _ _ _ _ _ _ _ _ _ executed c.new-sink.ensures.taken c.new-sink.ensures.failures
    c.new-sink.ensures.destination
    c.execute_one-answer.ensures.borrows c.execute_one-answer.ensures.destination c.into_inner.ensures.destination
    (search rules) c.settle.ensures.status)
    c.execute_one-answer.ensures.executes
