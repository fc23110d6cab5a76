use Rattle.std.proofs.Common.{◌≡◌, Err, option_map, rules, subst, sym}
use Rattle.liquid_program.specs.meaning.Command.{option_words}
use Rattle.liquid_program.specs.meaning.Requests.{partials_steps}
use Rattle.liquid_program.specs.steps.Steps.{Collects, CollectsAll, CollectsSome}
use Rattle.liquid_program.proofs.StepsLemmas.{folder_named}
use Rattle.liquid_program.proofs.FolderLemmas.{partials_brought}
use Rattle.liquid_program.proofs.gather.partials_of.Goals as goal

pub returns-in_ok-partials_in-in-Some-clause-partials : goal.returns-in_ok-partials_in-in-Some-clause-partials
returns-in_ok-partials_in-in-Some-clause-partials g c =
    partials_brought (g.F.Folder.known c.args.files.now) (g.F.Folder.listed c.args.files.now)
    (option_map (λ e. e.now) c.args.ending) c.args.folder c.in-Some.folder c.in_ok-partials_in-in-Some.field-0 c.in-Some.is
    c.in_ok-partials_in-in-Some.ensures.partials

pub returns-in_err-partials_in-in-Some-clause-requests : goal.returns-in_err-partials_in-in-Some-clause-requests
returns-in_err-partials_in-in-Some-clause-requests g c = λ all folders known listed.
    let fault = c.in_err-partials_in-in-Some.field-0.0 in
    let is : c.from_residual.result ≡ Err fault = search rules in
    subst (λ r. Collects (partials_steps all folders (option_words (option_map (λ f. f.now) c.args.folder))
    (option_map (λ e. e.now) c.args.ending)) (g.F.Folder.requests c.args.files.now) (g.F.Folder.requests c.partials_in.new.files) r)
    (sym is)
    (subst (λ steps. CollectsSome steps (g.F.Folder.requests c.args.files.now) (g.F.Folder.requests c.partials_in.new.files) fault)
    (sym (folder_named all folders (option_map (λ e. e.now) c.args.ending) c.args.folder c.in-Some.folder c.in-Some.is))
    (c.in_err-partials_in-in-Some.ensures.requests all folders known listed))

pub returns-in_ok-partials_in-in-Some-clause-requests : goal.returns-in_ok-partials_in-in-Some-clause-requests
returns-in_ok-partials_in-in-Some-clause-requests g c = λ all folders known listed.
    subst (λ steps. CollectsAll steps (g.F.Folder.requests c.args.files.now) (g.F.Folder.requests c.partials_in.new.files))
    (sym (folder_named all folders (option_map (λ e. e.now) c.args.ending) c.args.folder c.in-Some.folder c.in-Some.is))
    (c.in_ok-partials_in-in-Some.ensures.requests all folders known listed)
