use Rattle.std.proofs.Common.{◌≡◌, ◌∷◌, ap, refl, sym, Ok, Err, Option, Result, String, Global, rules, subst, ◌∙◌, string_bytes, option_map}
use Rattle.liquid_partials.specs.meaning.Sources.{Texts}
use Rattle.liquid_program.specs.meaning.Command.{option_words}
use Rattle.liquid_program.specs.meaning.Gathered.{WithText, WithPartials}
use Rattle.liquid_program.specs.meaning.Program.{status_of}
use Rattle.liquid_program.specs.meaning.Status.{exit_status, fault_status}
use Rattle.liquid_program.specs.steps.Steps.{Stops, Brings}
use Rattle.liquid_program.proofs.GatheredLemmas.{Files, Folders}
use Rattle.liquid_program.proofs.ExecutedLemmas.{no_template, no_json, no_globals, no_partials, executed, failed}
use Rattle.liquid_program.specs.declared.fault.Fault.{Fault}
use Rattle.liquid_program.specs.meaning.Requests.{Follows, command_steps}
use Rattle.liquid_program.proofs.StepsLemmas.{
  all_followed,
  globals_known,
  globals_refused,
  globals_stop,
  globals_unread,
  partials_stop,
  template_stops,
  text_known,
}
use Rattle.liquid_program.proofs.run.execute.Goals as goal

pub returns-in_err-template-clause-executes : goal.returns-in_err-template-clause-executes
returns-in_err-template-clause-executes g c =
    let before = g.K.Sink.sunk c.args.sink.now in
    no_template c.args.command.choices.options (option_map (λ e. e.now) c.args.command.choices.ending) c.args.command.paths.template.now
    c.args.command.paths.globals.now (option_map (λ f. f.now) c.args.command.paths.folder) (g.F.Folder.known c.args.files.now)
    (g.F.Folder.listed c.args.files.now) before
    (exit_status c.from_residual.result) c.in_err-template.field-0.0
    (failed c.from_residual.result c.in_err-template.field-0.0 (search rules)) c.in_err-template.ensures.text

pub returns-in_err-json-clause-executes : goal.returns-in_err-json-clause-executes
returns-in_err-json-clause-executes g c =
    let before = g.K.Sink.sunk c.args.sink.now in
    no_json c.args.command.choices.options (option_map (λ e. e.now) c.args.command.choices.ending) c.args.command.paths.template.now
    c.args.command.paths.globals.now (option_map (λ f. f.now) c.args.command.paths.folder) (g.F.Folder.known c.args.files.now)
    (g.F.Folder.listed c.args.files.now) before
    (exit_status c.from_residual-in_err-json.result) c.in_ok-template.template c.in_ok-template.ensures.text c.in_err-json.field-0.0
    (failed c.from_residual-in_err-json.result c.in_err-json.field-0.0 (search rules))
    (subst (λ (known : Files). WithText (known c.args.command.paths.globals.now) (Stops {A = String Global} (Err c.in_err-json.field-0.0))
    (λ bytes. Brings (string_bytes {Z = Global}) bytes (Err c.in_err-json.field-0.0))) c.text_of.ensures.same c.in_err-json.ensures.text)

pub returns-in_err-globals-clause-executes : goal.returns-in_err-globals-clause-executes
returns-in_err-globals-clause-executes g c =
    let before = g.K.Sink.sunk c.args.sink.now in
    let json =
    subst (λ (known : Files). WithText (known c.args.command.paths.globals.now) (Stops (Ok c.in_ok-json.json))
    (λ bytes. Brings string_bytes bytes (Ok c.in_ok-json.json))) c.text_of.ensures.same c.in_ok-json.ensures.text in
    no_globals c.args.command.choices.options (option_map (λ e. e.now) c.args.command.choices.ending) c.args.command.paths.template.now
    c.args.command.paths.globals.now (option_map (λ f. f.now) c.args.command.paths.folder) (g.F.Folder.known c.args.files.now)
    (g.F.Folder.listed c.args.files.now) before
    (exit_status c.from_residual-in_err-globals.result) c.in_ok-template.template c.in_ok-template.ensures.text c.in_ok-json.json json
    c.in_err-globals.field-0.0 (failed c.from_residual-in_err-globals.result c.in_err-globals.field-0.0 (search rules))
    (rw c.as_str.ensures.value at c.in_err-globals.ensures.globals)

pub returns-in_err-partials-clause-executes : goal.returns-in_err-partials-clause-executes
returns-in_err-partials-clause-executes g c =
    let before = g.K.Sink.sunk c.args.sink.now in
    let json =
    subst (λ (known : Files). WithText (known c.args.command.paths.globals.now) (Stops (Ok c.in_ok-json.json))
    (λ bytes. Brings string_bytes bytes (Ok c.in_ok-json.json))) c.text_of.ensures.same c.in_ok-json.ensures.text in
    let ending = option_map (λ e. e.now) c.args.command.choices.ending in
    let words = option_words (option_map (λ f. f.now) c.args.command.paths.folder) in
    let same = c.text_of-2.ensures.same ∙ c.text_of.ensures.same in
    let listed = c.text_of-2.ensures.listed ∙ c.text_of.ensures.listed in
    let fault = c.in_err-partials.field-0.0 in
    no_partials c.args.command.choices.options (option_map (λ e. e.now) c.args.command.choices.ending) c.args.command.paths.template.now
    c.args.command.paths.globals.now (option_map (λ f. f.now) c.args.command.paths.folder) (g.F.Folder.known c.args.files.now)
    (g.F.Folder.listed c.args.files.now) before
    (exit_status c.from_residual-in_err-partials.result) c.in_ok-template.template c.in_ok-template.ensures.text c.in_ok-json.json json
    c.in_ok-globals.globals (rw c.as_str.ensures.value at c.in_ok-globals.ensures.globals)
    fault (failed c.from_residual-in_err-partials.result fault (search rules))
    (subst (λ (f : Folders). WithPartials (g.F.Folder.known c.args.files.now) f ending words (Stops {A = Option Texts} (Err fault))
    (λ partials. Brings (λ (source : Option Texts). source) partials (Err fault))) listed
    (subst (λ (k : Files). WithPartials k (g.F.Folder.listed c.text_of-2.new.files) ending words (Stops {A = Option Texts} (Err fault))
    (λ partials. Brings (λ (source : Option Texts). source) partials (Err fault))) same c.in_err-partials.ensures.partials))

pub returns-in-Ok-clause-executes : goal.returns-in-Ok-clause-executes
returns-in-Ok-clause-executes g c =
    let before = g.K.Sink.sunk c.args.sink.now in
    let after = g.K.Sink.sunk c.render_over.new.sink in
    let json =
    subst (λ (known : Files). WithText (known c.args.command.paths.globals.now) (Stops (Ok c.in_ok-json.json))
    (λ bytes. Brings string_bytes bytes (Ok c.in_ok-json.json))) c.text_of.ensures.same c.in_ok-json.ensures.text in
    let ending = option_map (λ e. e.now) c.args.command.choices.ending in
    let words = option_words (option_map (λ f. f.now) c.args.command.paths.folder) in
    let same = c.text_of-2.ensures.same ∙ c.text_of.ensures.same in
    let listed = c.text_of-2.ensures.listed ∙ c.text_of.ensures.listed in
    let source = c.in_ok-partials.partials in
    executed c.args.command.choices.options (option_map (λ e. e.now) c.args.command.choices.ending) c.args.command.paths.template.now
    c.args.command.paths.globals.now (option_map (λ f. f.now) c.args.command.paths.folder) (g.F.Folder.known c.args.files.now)
    (g.F.Folder.listed c.args.files.now) before after 0
    c.in_ok-template.template c.in_ok-json.json c.in_ok-globals.globals source c.render_over.result c.in_ok-template.ensures.text json
    (rw c.as_str.ensures.value at c.in_ok-globals.ensures.globals)
    (subst (λ (f : Folders). WithPartials (g.F.Folder.known c.args.files.now) f ending words (Stops (Ok source))
    (λ partials. Brings (λ (s : Option Texts). s) partials (Ok source))) listed
    (subst (λ (k : Files). WithPartials k (g.F.Folder.listed c.text_of-2.new.files) ending words (Stops (Ok source))
    (λ partials. Brings (λ (s : Option Texts). s) partials (Ok source))) same c.in_ok-partials.ensures.partials))
    (rw c.as_str-2.ensures.value at c.render_over.ensures.renders) (search rules)

pub returns-clause-executes : goal.returns-clause-executes
returns-clause-executes g c =
    let before = g.K.Sink.sunk c.args.sink.now in
    let after = g.K.Sink.sunk c.render_over.new.sink in
    let json =
    subst (λ (known : Files). WithText (known c.args.command.paths.globals.now) (Stops (Ok c.in_ok-json.json))
    (λ bytes. Brings string_bytes bytes (Ok c.in_ok-json.json))) c.text_of.ensures.same c.in_ok-json.ensures.text in
    let ending = option_map (λ e. e.now) c.args.command.choices.ending in
    let words = option_words (option_map (λ f. f.now) c.args.command.paths.folder) in
    let same = c.text_of-2.ensures.same ∙ c.text_of.ensures.same in
    let listed = c.text_of-2.ensures.listed ∙ c.text_of.ensures.listed in
    let source = c.in_ok-partials.partials in
    let one : 1 ≡ status_of c.render_over.result = search rules in
    executed c.args.command.choices.options (option_map (λ e. e.now) c.args.command.choices.ending) c.args.command.paths.template.now
    c.args.command.paths.globals.now (option_map (λ f. f.now) c.args.command.paths.folder) (g.F.Folder.known c.args.files.now)
    (g.F.Folder.listed c.args.files.now) before after (fault_status c.refuse.result)
    c.in_ok-template.template c.in_ok-json.json c.in_ok-globals.globals source c.render_over.result c.in_ok-template.ensures.text json
    (rw c.as_str.ensures.value at c.in_ok-globals.ensures.globals)
    (subst (λ (f : Folders). WithPartials (g.F.Folder.known c.args.files.now) f ending words (Stops (Ok source))
    (λ partials. Brings (λ (s : Option Texts). s) partials (Ok source))) listed
    (subst (λ (k : Files). WithPartials k (g.F.Folder.listed c.text_of-2.new.files) ending words (Stops (Ok source))
    (λ partials. Brings (λ (s : Option Texts). s) partials (Ok source))) same c.in_ok-partials.ensures.partials))
    (rw c.as_str-2.ensures.value at c.render_over.ensures.renders) (c.refuse.ensures.status ∙ one)

pub returns-in_err-template-clause-requests : goal.returns-in_err-template-clause-requests
returns-in_err-template-clause-requests g c = λ all folders known listed.
    let ending = option_map (λ e. e.now) c.args.command.choices.ending in
    let template = c.args.command.paths.template.now in
    let globals = c.args.command.paths.globals.now in
    let words = option_words (option_map (λ f. f.now) c.args.command.paths.folder) in
    let before = g.F.Folder.requests c.args.files.now in
    let first = g.F.Folder.requests c.text_of.new.files in
    let fault = c.in_err-template.field-0.0 in
    let is : c.from_residual.result ≡ Err fault = search rules in
    subst (λ r. Follows (command_steps all folders c.args.command.choices.options.decimals (template ∷ globals ∷ words) ending) before first
    r) (sym is)
    (template_stops all folders c.args.command.choices.options.decimals template globals words ending before first fault
    c.text_of.ensures.requests
    (text_known (all template) _ template (Err fault) (ap (λ (k : Files). k template) known) c.in_err-template.ensures.text
    c.in_err-template.ensures.reports))

pub returns-in_err-json-clause-requests : goal.returns-in_err-json-clause-requests
returns-in_err-json-clause-requests g c = λ all folders known listed.
    let ending = option_map (λ e. e.now) c.args.command.choices.ending in
    let template = c.args.command.paths.template.now in
    let globals = c.args.command.paths.globals.now in
    let words = option_words (option_map (λ f. f.now) c.args.command.paths.folder) in
    let before = g.F.Folder.requests c.args.files.now in
    let first = g.F.Folder.requests c.text_of.new.files in
    let second = g.F.Folder.requests c.text_of-2.new.files in
    let here = ap (λ (k : Files). k globals) (c.text_of.ensures.same ∙ known) in
    let none =
    text_known (all template) _ template (Ok c.in_ok-template.template)
    (ap (λ (k : Files). k template) known) c.in_ok-template.ensures.text tt in
    let fault = c.in_err-json.field-0.0 in
    let is : c.from_residual-in_err-json.result ≡ Err fault = search rules in
    subst (λ r. Follows (command_steps all folders c.args.command.choices.options.decimals (template ∷ globals ∷ words) ending) before
    second r) (sym is)
    (globals_stop all folders c.args.command.choices.options.decimals template globals words ending before first c.text_of.ensures.requests
    none second fault
    c.text_of-2.ensures.requests
    (globals_unread c.args.command.choices.options.decimals (all globals) globals fault (text_known (all globals) _ globals
    (Err fault) here c.in_err-json.ensures.text c.in_err-json.ensures.reports)))

pub returns-in_err-globals-clause-requests : goal.returns-in_err-globals-clause-requests
returns-in_err-globals-clause-requests g c = λ all folders known listed.
    let ending = option_map (λ e. e.now) c.args.command.choices.ending in
    let template = c.args.command.paths.template.now in
    let globals = c.args.command.paths.globals.now in
    let words = option_words (option_map (λ f. f.now) c.args.command.paths.folder) in
    let before = g.F.Folder.requests c.args.files.now in
    let first = g.F.Folder.requests c.text_of.new.files in
    let second = g.F.Folder.requests c.text_of-2.new.files in
    let here = ap (λ (k : Files). k globals) (c.text_of.ensures.same ∙ known) in
    let none =
    text_known (all template) _ template (Ok c.in_ok-template.template)
    (ap (λ (k : Files). k template) known) c.in_ok-template.ensures.text tt in
    let fault = c.in_err-globals.field-0.0 in
    let is : c.from_residual-in_err-globals.result ≡ Err fault = search rules in
    subst (λ r. Follows (command_steps all folders c.args.command.choices.options.decimals (template ∷ globals ∷ words) ending) before
    second r) (sym is)
    (globals_stop all folders c.args.command.choices.options.decimals template globals words ending before first c.text_of.ensures.requests
    none second fault
    c.text_of-2.ensures.requests
    (globals_refused c.args.command.choices.options.decimals (all globals) _ globals c.in_ok-json.json fault here c.in_ok-json.ensures.text
    (rw c.as_str.ensures.value at c.in_err-globals.ensures.reports)))

pub returns-in_err-partials-clause-requests : goal.returns-in_err-partials-clause-requests
returns-in_err-partials-clause-requests g c = λ all folders known listed.
    let ending = option_map (λ e. e.now) c.args.command.choices.ending in
    let template = c.args.command.paths.template.now in
    let globals = c.args.command.paths.globals.now in
    let words = option_words (option_map (λ f. f.now) c.args.command.paths.folder) in
    let before = g.F.Folder.requests c.args.files.now in
    let first = g.F.Folder.requests c.text_of.new.files in
    let second = g.F.Folder.requests c.text_of-2.new.files in
    let here = ap (λ (k : Files). k globals) (c.text_of.ensures.same ∙ known) in
    let none =
    text_known (all template) _ template (Ok c.in_ok-template.template)
    (ap (λ (k : Files). k template) known) c.in_ok-template.ensures.text tt in
    let fault = c.in_err-partials.field-0.0 in
    let is : c.from_residual-in_err-partials.result ≡ Err fault = search rules in
    let after = g.F.Folder.requests c.partials_of.new.files in
    let fit =
    globals_known c.args.command.choices.options.decimals (all globals) _ globals c.in_ok-json.json here c.in_ok-json.ensures.text
    ∙ (rw c.as_str.ensures.value at c.in_ok-globals.ensures.reports) in
    subst (λ r. Follows (command_steps all folders c.args.command.choices.options.decimals (template ∷ globals ∷ words) ending) before after
    r) (sym is)
    (partials_stop all folders c.args.command.choices.options.decimals template globals words ending before first c.text_of.ensures.requests
    none second
    c.text_of-2.ensures.requests fit after fault
    (c.in_err-partials.ensures.requests all folders (c.text_of-2.ensures.same ∙ c.text_of.ensures.same ∙ known)
    (c.text_of-2.ensures.listed ∙ c.text_of.ensures.listed ∙ listed)))

pub returns-in-Ok-clause-requests : goal.returns-in-Ok-clause-requests
returns-in-Ok-clause-requests g c = λ all folders known listed.
    let ending = option_map (λ e. e.now) c.args.command.choices.ending in
    let template = c.args.command.paths.template.now in
    let globals = c.args.command.paths.globals.now in
    let words = option_words (option_map (λ f. f.now) c.args.command.paths.folder) in
    let before = g.F.Folder.requests c.args.files.now in
    let first = g.F.Folder.requests c.text_of.new.files in
    let second = g.F.Folder.requests c.text_of-2.new.files in
    let here = ap (λ (k : Files). k globals) (c.text_of.ensures.same ∙ known) in
    let none =
    text_known (all template) _ template (Ok c.in_ok-template.template)
    (ap (λ (k : Files). k template) known) c.in_ok-template.ensures.text tt in
    let fit =
    globals_known c.args.command.choices.options.decimals (all globals) _ globals c.in_ok-json.json here c.in_ok-json.ensures.text
    ∙ (rw c.as_str.ensures.value at c.in_ok-globals.ensures.reports) in
    all_followed all folders c.args.command.choices.options.decimals template globals words ending before first c.text_of.ensures.requests
    none second c.text_of-2.ensures.requests
    fit (g.F.Folder.requests c.partials_of.new.files) (Ok (tt {0}))
    (c.in_ok-partials.ensures.requests all folders (c.text_of-2.ensures.same ∙ c.text_of.ensures.same ∙ known)
    (c.text_of-2.ensures.listed ∙ c.text_of.ensures.listed ∙ listed)) refl

pub returns-clause-requests : goal.returns-clause-requests
returns-clause-requests g c = λ all folders known listed.
    let ending = option_map (λ e. e.now) c.args.command.choices.ending in
    let template = c.args.command.paths.template.now in
    let globals = c.args.command.paths.globals.now in
    let words = option_words (option_map (λ f. f.now) c.args.command.paths.folder) in
    let before = g.F.Folder.requests c.args.files.now in
    let first = g.F.Folder.requests c.text_of.new.files in
    let second = g.F.Folder.requests c.text_of-2.new.files in
    let here = ap (λ (k : Files). k globals) (c.text_of.ensures.same ∙ known) in
    let none =
    text_known (all template) _ template (Ok c.in_ok-template.template)
    (ap (λ (k : Files). k template) known) c.in_ok-template.ensures.text tt in
    let fit =
    globals_known c.args.command.choices.options.decimals (all globals) _ globals c.in_ok-json.json here c.in_ok-json.ensures.text
    ∙ (rw c.as_str.ensures.value at c.in_ok-globals.ensures.reports) in
    let answer : Result (Unit {0}) Fault = Err c.refuse.result in
    all_followed all folders c.args.command.choices.options.decimals template globals words ending before first c.text_of.ensures.requests
    none second c.text_of-2.ensures.requests
    fit (g.F.Folder.requests c.partials_of.new.files) answer
    (c.in_ok-partials.ensures.requests all folders (c.text_of-2.ensures.same ∙ c.text_of.ensures.same ∙ known)
    (c.text_of-2.ensures.listed ∙ c.text_of.ensures.listed ∙ listed)) c.refuse.ensures.trouble
