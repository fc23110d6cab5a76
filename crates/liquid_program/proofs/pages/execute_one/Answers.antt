use Rattle.std.proofs.Common.{rules, ◌∙◌, refl}
use Rattle.std.specs.Prelude.{⊤}
use Rattle.liquid_pages.specs.meaning.Globals.{json_object}
use Rattle.liquid_program.specs.meaning.Status.{exit_status}
use Rattle.liquid_program.proofs.ExecutedLemmas.{failed}
use Rattle.liquid_program.proofs.GatheredLemmas.{globals_anyhow}
use Rattle.liquid_program.proofs.PagesLemmas.{maybe_globals, one_memory, one_unread}
use Rattle.liquid_program.proofs.pages.execute_one.Goals as goal

pub returns-in_err-text-clause-executes : goal.returns-in_err-text-clause-executes
returns-in_err-text-clause-executes g c =
    let fault = c.in_err-text.field-0.0 in
    globals_anyhow (json_object c.args.pages.options.decimals c.args.json.now) ⊤ _ tt
    (λ globals. one_unread c.args.pages.options c.args.template.now globals c.args.partials.now (g.F.Folder.known c.args.files.now)
    (g.K.Sink.sunk c.args.sink.now) (exit_status c.from_residual.result)
    fault (failed c.from_residual.result fault (search rules)) c.in_err-text.ensures.text)

pub returns-in_err-globals-clause-executes : goal.returns-in_err-globals-clause-executes
returns-in_err-globals-clause-executes g c =
    let fault = c.in_err-globals.field-0.0 in
    maybe_globals (json_object c.args.pages.options.decimals c.args.json.now) _ _ _
    (λ globals memory. one_memory c.args.pages.options c.args.template.now globals c.args.partials.now (g.F.Folder.known c.args.files.now)
    (g.K.Sink.sunk c.args.sink.now) (exit_status c.from_residual-in_err-globals.result)
    (failed c.from_residual-in_err-globals.result fault (search rules) ∙ memory)) c.in_err-globals.ensures.globals

pub returns-in_default-clause-executes : goal.returns-in_default-clause-executes
returns-in_default-clause-executes g c =
    globals_anyhow (json_object c.args.pages.options.decimals c.args.json.now) ⊤ _ tt
    (λ globals. one_memory c.args.pages.options c.args.template.now globals c.args.partials.now (g.F.Folder.known c.args.files.now)
    (g.K.Sink.sunk c.args.sink.now) _ refl)
