-- What a call gives, where its result is returned as it is.
use Rattle.std.proofs.Common.{◌≡◌, None, subst, sym}
use Rattle.std.specs.Prelude.{Result, Ok, Err, IfOk, IfErr, IfSome, OnOk, OnErr}
use Rattle.liquid_error.specs.declared.error.Error.{Error}
use Rattle.liquid_error.specs.meaning.Refusal.{Refusal}
use Rattle.liquid_error.specs.meaning.Told.{Gives, told}

-- from the value of an `Ok`, and from an `Err` that is out of memory
pub gives_value : {A B : Type 0} (f : A → B) (r : Result A Error) (meant : Result B Refusal) → IfOk r (λ x. meant ≡ Ok (f x))
    → IfErr r (λ e. told e ≡ None) → Gives f r meant
gives_value f (Ok x) meant h none = h
gives_value f (Err e) meant h none = subst (λ o. IfSome o (λ r. meant ≡ Err r)) (sym none) tt

-- of an equal meaning
pub gives_same : {A B : Type 0} (f : A → B) (r : Result A Error) (meant other : Result B Refusal) → other ≡ meant → Gives f r meant
    → Gives f r other
gives_same f r meant other same h = subst (Gives f r) (sym same) h

-- from both cases
pub on_both : {A E P S Q : Type 0} (r : Result A E) → (P → Q) → (S → Q) → OnOk r P → OnErr r S → Q
on_both (Ok x) f g h n = f h
on_both (Err e) f g h n = g n
