use Rattle.std.proofs.Common.{◌≡◌, ap, sym, Err, Ok, Option, option_map, map, rules, string_bytes, subst, ◌∙◌}
use Rattle.std.specs.Prelude.{⊤}
use Rattle.liquid_partials.specs.meaning.Sources.{Texts}
use Rattle.liquid_pages.specs.meaning.Globals.{json_object}
use Rattle.liquid_program.specs.meaning.Command.{option_words}
use Rattle.liquid_program.specs.meaning.Gathered.{WithGlobals, WithPartials}
use Rattle.liquid_program.specs.meaning.Written.{WritesEach}
use Rattle.liquid_program.specs.steps.Steps.{Brings, Stops}
use Rattle.liquid_program.specs.meaning.Status.{all_status}
use Rattle.liquid_program.specs.meaning.PagesCommand.{asked_pages}
use Rattle.liquid_program.proofs.GatheredLemmas.{Files, Folders}
use Rattle.liquid_program.proofs.PagesLemmas.{each_written, failed_all, no_globals_object, no_globals_text, no_pages_partials, same_known}
use Rattle.liquid_program.specs.meaning.Requests.{Follows, pages_steps}
use Rattle.liquid_program.proofs.StepsLemmas.{
  globals_known,
  globals_refused,
  globals_unread,
  pages_followed,
  pages_partials_stop,
  pages_stop,
  text_known,
}
use Rattle.liquid_program.proofs.pages.write_all.Goals as goal

pub returns-in_err-json-clause-writes : goal.returns-in_err-json-clause-writes
returns-in_err-json-clause-writes g c =
    let fault = c.in_err-json.field-0.0 in
    no_globals_text (asked_pages c.args.pages) (g.F.Folder.known c.args.files.now) (g.F.Folder.listed c.args.files.now)
    (g.F.Folder.known c.text_of.new.files) (all_status c.from_residual.result)
    fault (failed_all c.from_residual.result fault (search rules)) (same_known _ _ c.text_of.ensures.same) c.in_err-json.ensures.text

pub returns-in_err-globals_of-clause-writes : goal.returns-in_err-globals_of-clause-writes
returns-in_err-globals_of-clause-writes g c =
    let fault = c.in_err-globals_of.field-0.0 in
    no_globals_object (asked_pages c.args.pages) (g.F.Folder.known c.args.files.now) (g.F.Folder.listed c.args.files.now)
    (g.F.Folder.known c.text_of.new.files)
    (all_status c.from_residual-in_err-globals_of.result) c.in_ok-json.json c.in_ok-json.ensures.text
    fault (failed_all c.from_residual-in_err-globals_of.result fault (search rules)) (same_known _ _ c.text_of.ensures.same)
    (rw c.as_str.ensures.value at c.in_err-globals_of.ensures.globals)

pub returns-in_err-partials-clause-writes : goal.returns-in_err-partials-clause-writes
returns-in_err-partials-clause-writes g c =
    let ending = option_map (λ e. e.now) c.args.pages.ending in
    let words = option_words (option_map (λ f. f.now) c.args.pages.partials) in
    let fault = c.in_err-partials.field-0.0 in
    no_pages_partials (asked_pages c.args.pages) (g.F.Folder.known c.args.files.now) (g.F.Folder.listed c.args.files.now)
    (g.F.Folder.known c.partials_of.new.files)
    (all_status c.from_residual-in_err-partials.result) c.in_ok-json.json c.in_ok-json.ensures.text c.in_ok-globals_of.field-0
    (rw c.as_str.ensures.value at c.in_ok-globals_of.ensures.globals)
    fault (failed_all c.from_residual-in_err-partials.result fault (search rules))
    (same_known _ _ (c.partials_of.ensures.same ∙ c.text_of.ensures.same))
    (subst (λ (f : Folders). WithPartials (g.F.Folder.known c.args.files.now) f ending words (Stops {A = Option Texts} (Err fault))
    (λ partials. Brings (λ (source : Option Texts). source) partials (Err fault))) c.text_of.ensures.listed
    (subst (λ (k : Files). WithPartials k (g.F.Folder.listed c.text_of.new.files) ending words (Stops {A = Option Texts} (Err fault))
    (λ partials. Brings (λ (source : Option Texts). source) partials (Err fault))) c.text_of.ensures.same
    c.in_err-partials.ensures.partials))

pub returns-clause-writes : goal.returns-clause-writes
returns-clause-writes g c =
    let ending = option_map (λ e. e.now) c.args.pages.ending in
    let words = option_words (option_map (λ f. f.now) c.args.pages.partials) in
    let source = c.in_ok-partials.partials in
    let left = g.F.Folder.known c.write_each.new.files in
    each_written (asked_pages c.args.pages) (g.F.Folder.known c.args.files.now) (g.F.Folder.listed c.args.files.now) left
    c.write_each.result c.in_ok-json.json c.in_ok-json.ensures.text c.in_ok-globals_of.field-0
    (rw c.as_str.ensures.value at c.in_ok-globals_of.ensures.globals) source
    (subst (λ (f : Folders). WithPartials (g.F.Folder.known c.args.files.now) f ending words (Stops (Ok source))
    (λ partials. Brings (λ (s : Option Texts). s) partials (Ok source))) c.text_of.ensures.listed
    (subst (λ (k : Files). WithPartials k (g.F.Folder.listed c.text_of.new.files) ending words (Stops (Ok source))
    (λ partials. Brings (λ (s : Option Texts). s) partials (Ok source))) c.text_of.ensures.same
    c.in_ok-partials.ensures.partials))
    (subst (λ (k : Files). WithGlobals (json_object c.args.pages.options.decimals (string_bytes c.in_ok-json.json)) ⊤
    (λ names. WritesEach (asked_pages c.args.pages) names source
    (map string_bytes c.args.pages.templates.now) k left 0 c.write_each.result))
    (c.partials_of.ensures.same ∙ c.text_of.ensures.same) (rw c.as_str-2.ensures.value at c.write_each.ensures.writes))

pub returns-in_err-json-clause-requests : goal.returns-in_err-json-clause-requests
returns-in_err-json-clause-requests g c = λ all folders known listed.
    let globals = c.args.pages.globals.now in
    let before = g.F.Folder.requests c.args.files.now in
    let first = g.F.Folder.requests c.text_of.new.files in
    let here = ap (λ (k : Files). k globals) known in
    let fault = c.in_err-json.field-0.0 in
    let is : c.from_residual.result ≡ Err fault = search rules in
    subst (λ r. Follows (pages_steps all folders (asked_pages c.args.pages)) before first r) (sym is)
    (pages_stop all folders (asked_pages c.args.pages) before first fault c.text_of.ensures.requests
    (globals_unread c.args.pages.options.decimals (all globals) globals fault (text_known (all globals) _ globals
    (Err fault) here c.in_err-json.ensures.text c.in_err-json.ensures.reports)))

pub returns-in_err-globals_of-clause-requests : goal.returns-in_err-globals_of-clause-requests
returns-in_err-globals_of-clause-requests g c = λ all folders known listed.
    let globals = c.args.pages.globals.now in
    let before = g.F.Folder.requests c.args.files.now in
    let first = g.F.Folder.requests c.text_of.new.files in
    let here = ap (λ (k : Files). k globals) known in
    let fault = c.in_err-globals_of.field-0.0 in
    let is : c.from_residual-in_err-globals_of.result ≡ Err fault = search rules in
    subst (λ r. Follows (pages_steps all folders (asked_pages c.args.pages)) before first r) (sym is)
    (pages_stop all folders (asked_pages c.args.pages) before first fault c.text_of.ensures.requests
    (globals_refused c.args.pages.options.decimals (all globals) _ globals c.in_ok-json.json fault here c.in_ok-json.ensures.text
    (rw c.as_str.ensures.value at c.in_err-globals_of.ensures.reports)))

pub returns-in_err-partials-clause-requests : goal.returns-in_err-partials-clause-requests
returns-in_err-partials-clause-requests g c = λ all folders known listed.
    let globals = c.args.pages.globals.now in
    let before = g.F.Folder.requests c.args.files.now in
    let first = g.F.Folder.requests c.text_of.new.files in
    let here = ap (λ (k : Files). k globals) known in
    let fault = c.in_err-partials.field-0.0 in
    let is : c.from_residual-in_err-partials.result ≡ Err fault = search rules in
    let after = g.F.Folder.requests c.partials_of.new.files in
    let fit =
    globals_known c.args.pages.options.decimals (all globals) _ globals c.in_ok-json.json here c.in_ok-json.ensures.text
    ∙ (rw c.as_str.ensures.value at c.in_ok-globals_of.ensures.reports) in
    subst (λ r. Follows (pages_steps all folders (asked_pages c.args.pages)) before after r) (sym is)
    (pages_partials_stop all folders (asked_pages c.args.pages) before first c.text_of.ensures.requests fit after fault
    (c.in_err-partials.ensures.requests all folders (c.text_of.ensures.same ∙ known) (c.text_of.ensures.listed ∙ listed)))

pub returns-clause-requests : goal.returns-clause-requests
returns-clause-requests g c = λ all folders known listed.
    let globals = c.args.pages.globals.now in
    let before = g.F.Folder.requests c.args.files.now in
    let first = g.F.Folder.requests c.text_of.new.files in
    let here = ap (λ (k : Files). k globals) known in
    let fit =
    globals_known c.args.pages.options.decimals (all globals) _ globals c.in_ok-json.json here c.in_ok-json.ensures.text
    ∙ (rw c.as_str.ensures.value at c.in_ok-globals_of.ensures.reports) in
    pages_followed all folders (asked_pages c.args.pages) before first c.text_of.ensures.requests fit
    (g.F.Folder.requests c.partials_of.new.files) (g.F.Folder.requests c.write_each.new.files) c.write_each.result
    (c.in_ok-partials.ensures.requests all folders (c.text_of.ensures.same ∙ known) (c.text_of.ensures.listed ∙ listed))
    c.write_each.ensures.requests
