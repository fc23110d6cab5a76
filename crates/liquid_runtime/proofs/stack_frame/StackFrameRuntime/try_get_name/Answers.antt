use Rattle.std.proofs.Common.{sym, ◌∙◌, None}
use Rattle.liquid_runtime.specs.meaning.Maps.{names_of}
use Rattle.std.specs.FinMap.{get}
use Rattle.liquid_runtime.specs.meaning.NamesSeen.{lookup}
use Rattle.liquid_runtime.proofs.FrameLaws.{lookup_stack}
use Rattle.liquid_runtime.proofs.FrameLookups.{own_value, value_below}
use Rattle.liquid_runtime.proofs.stack_frame.StackFrameRuntime.try_get_name.Goals as goal

pub returns-in-Some : goal.returns-in-Some
returns-in-Some g c =
    let f = c.args.self.now in
    let v = g.P.Runtime.view f.parent in
    let q = c.args.name.now in
    sym (lookup_stack (names_of f.names) None v q ∙ own_value (get (names_of f.names) q) (lookup v q) _ c.in-Some.ensures)

pub returns-in-None : goal.returns-in-None
returns-in-None g c =
    let f = c.args.self.now in
    let v = g.P.Runtime.view f.parent in
    let q = c.args.name.now in
    c.try_get_name.ensures ∙ sym (lookup_stack (names_of f.names) None v q
    ∙ value_below (get (names_of f.names) q) (lookup v q) c.in-None.ensures)
