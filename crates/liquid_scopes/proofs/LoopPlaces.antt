-- The places of a loop's two names, as its frame is recorded and forgotten.
use Rattle.std.proofs.Common.{◌≡◌, Bool, true, false, refl, sym, ap, ◌∙◌}
use Rattle.std.specs.Prelude.{◌&&◌, ◌||◌, not}

either : (S f n e : Bool) → ((S || (f && e)) || (n && e)) ≡ (S || ((f || n) && e))
either true f n e = refl
either false true true true = refl
either false true true false = refl
either false true false true = refl
either false true false false = refl
either false false n e = refl

twice : (S f n e : Bool) → ((S || ((f || n) && e)) || ((f || n) && e)) ≡ (S || ((f || n) && e))
twice true f n e = refl
twice false true n true = refl
twice false true n false = refl
twice false false true true = refl
twice false false true false = refl
twice false false false e = refl

first_only : (S f n e : Bool) → ((S || (f && e)) || ((f || n) && e)) ≡ (S || ((f || n) && e))
first_only true f n e = refl
first_only false true n true = refl
first_only false true n false = refl
first_only false false n e = refl

neither : (S f n e : Bool) → ((S && not (f && e)) && not (n && e)) ≡ (S && not ((f || n) && e))
neither false f n e = refl
neither true true true true = refl
neither true true true false = refl
neither true true false true = refl
neither true true false false = refl
neither true false n e = refl

-- both names are noted
pub both_noted : (S M N f n e h : Bool) → h ≡ (f || n) → M ≡ (S || (f && e)) → N ≡ (M || (n && e)) → N ≡ (S || (h && e))
both_noted S M N f n e h is first second =
    second ∙ ap (λ b. b || (n && e)) first ∙ either S f n e ∙ ap (λ b. S || (b && e)) (sym is)

pub both_partly : (S M N f n e h : Bool) → h ≡ (f || n) → M ≡ (S || (f && e)) → N ≡ (M || (n && e)) → (N || (h && e)) ≡ (S || (h && e))
both_partly S M N f n e h is first second =
    ap (λ b. N || (b && e)) is ∙ ap (λ b. b || ((f || n) && e)) (both_noted S M N f n e (f || n) refl first second) ∙ twice S f n e
    ∙ ap (λ b. S || (b && e)) (sym is)

-- .. or only the first
pub one_partly : (S M N f n e h : Bool) → h ≡ (f || n) → M ≡ (S || (f && e)) → N ≡ M → (N || (h && e)) ≡ (S || (h && e))
one_partly S M N f n e h is first same =
    ap (λ b. N || (b && e)) is ∙ ap (λ b. b || ((f || n) && e)) (same ∙ first) ∙ first_only S f n e ∙ ap (λ b. S || (b && e)) (sym is)

pub both_left : (S M N f n e h : Bool) → h ≡ (f || n) → M ≡ (S && not (f && e)) → N ≡ (M && not (n && e)) → N ≡ (S && not (h && e))
both_left S M N f n e h is first second =
    second ∙ ap (λ b. b && not (n && e)) first ∙ neither S f n e ∙ ap (λ b. S && not (b && e)) (sym is)
