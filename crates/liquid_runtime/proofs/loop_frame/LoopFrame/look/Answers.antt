use Rattle.std.proofs.Common.{Bool, Some, None, cond, codes, bytes_eq, sym, ap, ◌∙◌}
use Rattle.liquid_runtime.specs.meaning.LoopNames.{forloop, item_tree}
use Rattle.liquid_runtime.proofs.LoopLaws.{looked}
use Rattle.liquid_runtime.proofs.loop_frame.LoopFrame.look.Goals as goal

pub returns-then-eq : goal.returns-then-eq
returns-then-eq c =
    let l = c.args.self.now in
    let q = c.args.name.now in
    let other = cond (bytes_eq q (codes "forloop")) (Some (forloop l.counts.place l.counts.size)) None in
    let same = sym (ap (bytes_eq q) (sym c.as_str.ensures.value) ∙ sym c.eq.ensures) in
    ap Some c.get.ensures
    ∙ sym (looked l q ∙ ap (λ (b : Bool). cond b (Some (item_tree l.item)) other) (sym same ∙ c.if-eq.true))

pub returns-else-eq : goal.returns-else-eq
returns-else-eq c =
    let l = c.args.self.now in
    let q = c.args.name.now in
    let other = cond (bytes_eq q (codes "forloop")) (Some (forloop l.counts.place l.counts.size)) None in
    let same = sym (ap (bytes_eq q) (sym c.as_str.ensures.value) ∙ sym c.eq.ensures) in
    c.forloop_of.ensures
    ∙ sym (looked l q ∙ ap (λ (b : Bool). cond b (Some (item_tree l.item)) other) (sym same ∙ c.if-eq.false))
