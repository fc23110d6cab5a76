use Rattle.std.proofs.Common.{rules, ◌≡◌, ℕ, List, Bool, Option, Some, Result, Ok, Err, IfOk, map, true, subst, sym}
use Rattle.std.specs.Prelude.{is_ok}
use Rattle.page_site.specs.meaning.Faults.{partial_text}
use Rattle.page_site.specs.meaning.Requested.{Follows}
use Rattle.liquid_page.specs.meaning.Command.{PartialsAre, folder_requests}
use Rattle.liquid_page.specs.meaning.Names.{text_given}
use Rattle.liquid_page.proofs.run.partials_of.Goals as goal

pub returns-in-Some-clause-partials : goal.returns-in-Some-clause-partials
returns-in-Some-clause-partials g c = λ all folders known listed.
    let folder : text_given c.args.folder ≡ Some c.in-Some.folder.now = search rules in
    subst (λ (f : Option (List ℕ)).
    IfOk c.read_partials.result (λ partials. PartialsAre all folders c.args.called f (partial_text partials))) (sym folder)
    (c.read_partials.ensures.partials all folders known listed)

pub returns-in-Some-clause-requests : goal.returns-in-Some-clause-requests
returns-in-Some-clause-requests g c = λ folders listed.
    let folder : text_given c.args.folder ≡ Some c.in-Some.folder.now = search rules in
    subst (λ (f : Option (List ℕ)). Follows (folder_requests folders f) (g.D.Folder.requests c.args.files.now)
    (g.D.Folder.requests c.read_partials.new.files) (is_ok c.read_partials.result)) (sym folder)
    (c.read_partials.ensures.requests folders listed)
