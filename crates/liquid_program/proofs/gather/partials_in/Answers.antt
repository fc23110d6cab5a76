use Rattle.std.proofs.Common.{◌≡◌, ◌∙◌, [], Err, ap, option_map, rules, sym, subst}
use Rattle.std.specs.Option.{unwrap_or}
use Rattle.std.specs.Prelude.{is_some}
use Rattle.std.specs.FinMap.{empty, keys}
use Rattle.liquid_partials.specs.meaning.Sources.{Texts}
use Rattle.liquid_plugins.specs.meaning.Registry.{by_name}
use Rattle.liquid_program.specs.meaning.Gathered.{WithFiles, WithFolder}
use Rattle.liquid_program.specs.meaning.Requests.{folder_steps}
use Rattle.liquid_program.specs.steps.Steps.{Brings, Collects, Stops}
use Rattle.liquid_program.proofs.EndingLemmas.{unwrapped}
use Rattle.liquid_program.proofs.FolderLemmas.{folder_read, folder_stops as folder_unread}
use Rattle.liquid_program.proofs.GatheredLemmas.{Files, Folders}
use Rattle.liquid_program.proofs.StepsLemmas.{folder_collects, folder_stops}
use Rattle.liquid_program.proofs.gather.partials_in.Goals as goal

pub returns-in_err-names-clause-partials : goal.returns-in_err-names-clause-partials
returns-in_err-names-clause-partials g c =
    let ending = option_map (λ e. e.now) c.args.ending in
    let listed = g.F.Folder.listed c.args.files.now (is_some ending) c.args.folder.now in
    let fault = c.in_err-names.field-0.0 in
    let is : c.from_residual.result ≡ Err fault = search rules in
    subst (λ r. WithFolder (g.F.Folder.known c.args.files.now) c.args.folder.now ending listed (Stops r)
    (λ texts. Brings (λ (s : Texts). s) texts r)) (sym is)
    (folder_unread (g.F.Folder.known c.args.files.now) c.args.folder.now ending listed fault c.in_err-names.ensures.names)

pub returns-clause-partials : goal.returns-clause-partials
returns-clause-partials g c =
    let ending = option_map (λ e. e.now) c.args.ending in
    folder_read (g.F.Folder.known c.args.files.now) c.args.folder.now ending
    (g.F.Folder.listed c.args.files.now (is_some ending) c.args.folder.now) c.in_ok-names.names _ _ c.in_ok-names.ensures.names
    (subst (λ (k : Files). WithFiles k c.args.folder.now (unwrap_or ending []) (keys (by_name c.in_ok-names.names)) empty
    (Stops c.texts_of.result) (λ texts. Brings (λ (s : Texts). s) texts c.texts_of.result)) c.names_in.ensures.same
    (rw (unwrapped c.args.ending _ _ c.unwrap_or.ensures (search rules)) at c.texts_of.ensures.texts))

pub returns-in_err-names-clause-requests : goal.returns-in_err-names-clause-requests
returns-in_err-names-clause-requests g c = λ all folders known listed.
    let ending = option_map (λ e. e.now) c.args.ending in
    let fault = c.in_err-names.field-0.0 in
    let is : c.from_residual.result ≡ Err fault = search rules in
    subst (λ r. Collects (folder_steps all c.args.folder.now ending (folders (is_some ending) c.args.folder.now))
    (g.F.Folder.requests c.args.files.now) (g.F.Folder.requests c.names_in.new.files) r) (sym is)
    (folder_stops all c.args.folder.now ending (folders (is_some ending) c.args.folder.now) _ (g.F.Folder.requests c.args.files.now)
    (g.F.Folder.requests c.names_in.new.files) fault
    (ap (λ (f : Folders). f (is_some ending) c.args.folder.now) listed) c.in_err-names.ensures.names c.in_err-names.ensures.reports
    c.names_in.ensures.requests)

pub returns-clause-requests : goal.returns-clause-requests
returns-clause-requests g c = λ all folders known listed.
    let ending = option_map (λ e. e.now) c.args.ending in
    folder_collects all c.args.folder.now ending (folders (is_some ending) c.args.folder.now) _ c.in_ok-names.names
    (g.F.Folder.requests c.args.files.now) (g.F.Folder.requests c.names_in.new.files) _ c.texts_of.result
    (ap (λ (f : Folders). f (is_some ending) c.args.folder.now) listed) c.in_ok-names.ensures.names c.names_in.ensures.requests
    ((rw (unwrapped c.args.ending _ _ c.unwrap_or.ensures (search rules)) at c.texts_of.ensures.requests) all
    (c.names_in.ensures.same ∙ known))
