-- What a helper with a closure does, from what the closure made.
use Rattle.std.proofs.Common.{◌≡◌, Option, Some, None, option_map, Result, Err, sym, subst, IfSome}
use Rattle.liquid_error.specs.declared.error.Error.{Error}
use Rattle.liquid_error.specs.meaning.Refusal.{Refusal}
use Rattle.liquid_error.specs.meaning.Told.{told, Becomes}
use Rattle.liquid_error.specs.meaning.Helpers.{ErrBecomesBy}

weaken : {A : Type 0} (P Q : A → Type 0) → ((x : A) → P x → Q x) → (o : Option A) → IfSome o P → IfSome o Q
weaken P Q f None h = tt
weaken P Q f (Some x) h = f x h

pub changed_by : {T M : Type 0} (Made : M → Type 0) (change : M → Refusal → Refusal) (before : Result T Error) (old new : Error)
    (made : M) → before ≡ Err old → Made made → Becomes (change made) old new → ErrBecomesBy Made change before (Err new)
changed_by {T} {M} Made change before old new made is m becomes =
    let P : Result T Error → Type 0 = λ b. ErrBecomesBy Made change b (Err new) in
    subst P (sym is) (weaken (λ (r : Refusal). option_map (change made) (told old) ≡ Some r)
    (λ (r : Refusal). (by : M) × Made by × (option_map (change by) (told old) ≡ Some r)) (λ r e. (made, m, e)) (told new) becomes)
