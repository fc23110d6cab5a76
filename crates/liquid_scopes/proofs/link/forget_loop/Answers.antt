use Rattle.std.proofs.Common.{codes, string_bytes, bytes_eq, ap, ◌∙◌}
use Rattle.std.specs.Prelude.{is_some, nat_eq, ◌&&◌, not}
use Rattle.std.specs.FinMap.{get}
use Rattle.liquid_runtime.specs.meaning.LoopNames.{loop_names}
use Rattle.liquid_runtime.proofs.LoopLaws.{two_names}
use Rattle.liquid_scopes.specs.steps.Standing.{stands}
use Rattle.liquid_scopes.proofs.LoopPlaces.{both_left}
use Rattle.liquid_scopes.proofs.link.forget_loop.Goals as goal

pub returns : goal.returns
returns c = λ q j.
    let l = c.args.frame.now in
    let e = nat_eq j c.args.place in
    both_left (stands c.args.index.now.places q j) (stands c.forget.new.self.places q j) (stands c.forget-2.new.self.places q j)
    (bytes_eq (codes "forloop") q) (bytes_eq (string_bytes l.name) q) e (is_some (get (loop_names l) q)) (two_names l q)
    (c.forget.ensures q j)
    (c.forget-2.ensures q j ∙ ap (λ bs. stands c.forget.new.self.places q j && not (bytes_eq bs q && e)) c.own_name.ensures)
