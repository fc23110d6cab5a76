use Rattle.std.proofs.Common.{sym, ◌∙◌, None}
use Rattle.liquid_runtime.specs.meaning.Maps.{names_of}
use Rattle.std.specs.FinMap.{get}
use Rattle.liquid_runtime.specs.meaning.NamesSeen.{comes_from_seal}
use Rattle.liquid_runtime.proofs.FrameLaws.{seal_stack}
use Rattle.liquid_runtime.proofs.FrameLookups.{seal_own, seal_below}
use Rattle.liquid_runtime.proofs.stack_frame.StackFrameRuntime.seals.Goals as goal

pub returns-in-Some : goal.returns-in-Some
returns-in-Some g c =
    let f = c.args.self.now in
    let v = g.P.Runtime.view f.parent in
    let q = c.args.name.now in
    sym (seal_stack (names_of f.names) None v q ∙ seal_own (get (names_of f.names) q) (comes_from_seal v q) _ c.in-Some.ensures)

pub returns-in-None : goal.returns-in-None
returns-in-None g c =
    let f = c.args.self.now in
    let v = g.P.Runtime.view f.parent in
    let q = c.args.name.now in
    c.seals.ensures ∙ sym (seal_stack (names_of f.names) None v q
    ∙ seal_below (get (names_of f.names) q) (comes_from_seal v q) c.in-None.ensures)
