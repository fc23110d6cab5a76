use Rattle.std.proofs.Common.{ℕ, Ok, Err, refl, subst, sym}
use Rattle.liquid_program.specs.meaning.Requests.{Follows, pages_steps}
use Rattle.liquid_program.specs.meaning.Status.{fault_status}
use Rattle.liquid_program.specs.meaning.Written.{WritesPages}
use Rattle.liquid_program.specs.meaning.PagesCommand.{asked_pages}
use Rattle.liquid_program.proofs.GatheredLemmas.{Files}
use Rattle.liquid_program.proofs.pages.write_pages.Goals as goal

pub returns-in-Err-clause-writes : goal.returns-in-Err-clause-writes
returns-in-Err-clause-writes g c =
    subst (λ s. WritesPages (asked_pages c.args.pages) (g.F.Folder.known c.args.files.now) (g.F.Folder.listed c.args.files.now)
    (g.F.Folder.known c.write_fault.new.files) s) (sym c.write_fault.ensures.status)
    (subst (λ (left : Files). WritesPages (asked_pages c.args.pages) (g.F.Folder.known c.args.files.now)
    (g.F.Folder.listed c.args.files.now) left (fault_status c.in-Err.fault)) (sym c.write_fault.ensures.same) c.in-Err.ensures.writes)

pub returns-in-Ok-clause-requests : goal.returns-in-Ok-clause-requests
returns-in-Ok-clause-requests g c = λ all folders known listed. (Ok c.in-Ok.status, c.in-Ok.ensures.requests all folders known listed, refl)

pub returns-in-Err-clause-requests : goal.returns-in-Err-clause-requests
returns-in-Err-clause-requests g c = λ all folders known listed.
    let steps = pages_steps all folders (asked_pages c.args.pages) in
    let before = g.F.Folder.requests c.args.files.now in (
      Err c.in-Err.fault,
      subst (λ after. Follows {A = ℕ} steps before after (Err c.in-Err.fault)) (sym c.write_fault.ensures.requests)
          (c.in-Err.ensures.requests all folders known listed),
      c.write_fault.ensures.status,
    )
