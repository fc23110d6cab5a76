use Rattle.std.proofs.Common.{◌≡◌, sym, ap, ◌∙◌, string_bytes, bytes_eq}
use Rattle.std.specs.Prelude.{nat_eq, ◌&&◌, ◌||◌, not}
use Rattle.liquid_scopes.specs.steps.Standing.{stands}
use Rattle.liquid_runtime.proofs.Objects.{has_name, has_names_of}
use Rattle.liquid_scopes.proofs.IndexLaws.{has_more, forget_moves}
use Rattle.std.proofs.Math.Bool.{and-true}
use Rattle.liquid_scopes.proofs.index.Index.forget_all.Goals as goal

pub loop-name-init : goal.loop-name-init
loop-name-init c =
    λ q j. ap (λ b. stands c.args.self.now.places q j && not (b && nat_eq j c.args.frame))
    (ap (has_name q) (c.into_iter-name-iterator.ensures.into_iter_gives ∙ c.iter-name-items.ensures.rest)
    ∙ sym (has_names_of c.args.names.now q))

pub loop-name-preserved : goal.loop-name-preserved
loop-name-preserved c = λ q j.
    let S = stands c.loop-name.self.places q j in
    let k = c.in-Some.name.now in
    let es = c.next.new.self in
    let e = nat_eq j c.args.frame in
    let b = bytes_eq (string_bytes k) q in
    let dropped : stands c.forget.new.self.places q j ≡ (S && not (b && e)) =
    c.forget.ensures q j ∙ ap (λ bs. S && not (bytes_eq bs q && e)) c.as_str.ensures.value in
    let more : has_name q c.loop-name.name-iterator ≡ (b || has_name q es) =
    ap (has_name q) c.in-Some.ensures.steps ∙ has_more k c.in-Some.field-0-1.now es q in
    ap (λ x. x && not (has_name q es && e)) dropped ∙ forget_moves S b (has_name q es) e ∙ ap (λ x. S && not (x && e)) (sym more)
    ∙ c.loop-name.invariant q j

pub returns : goal.returns
returns c = λ q j.
    let S = stands c.loop-name.self.places q j in
    let e = nat_eq j c.args.frame in
    sym (and-true S) ∙ ap (λ es. S && not (has_name q es && e)) (sym c.in-None.ensures.steps.0) ∙ c.loop-name.invariant q j
