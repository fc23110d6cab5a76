use Rattle.std.proofs.Common.{ap, sym, ◌∙◌}
use Rattle.std.specs.Prelude.{is_some, nat_eq, ◌&&◌, ◌||◌}
use Rattle.std.specs.FinMap.{get}
use Rattle.liquid_runtime.specs.meaning.LoopNames.{loop_names}
use Rattle.liquid_scopes.specs.steps.LinkLayers.{layer_of}
use Rattle.liquid_scopes.specs.steps.Standing.{stands, own}
use Rattle.liquid_scopes.proofs.link.Link.note.Goals as goal

pub returns-in-Loop-clause-partly : goal.returns-in-Loop-clause-partly
returns-in-Loop-clause-partly g c = λ q j.
    let e = nat_eq j c.args.place in
    let same = ap (λ k. is_some (own (layer_of k) q)) c.in-Loop.is ∙ ap (λ l. is_some (get (loop_names l) q)) (sym c.deref.ensures) in
    ap (λ b. stands c.note_loop.new.index.places q j || (b && e)) same ∙ c.note_loop.ensures.partly q j
    ∙ ap (λ b. stands c.args.index.now.places q j || (b && e)) (sym same)
