-- What the helpers on results do: an Ok stays, an Err says something else, and out of memory stays out of memory.
use Rattle.std.specs.Prelude.{ℕ, List, ◌≡◌, Some, Result, Ok, Err, IfSome, IsErrAnd, option_map}
use Rattle.liquid_error.specs.declared.error.Error.{Error}
use Rattle.liquid_error.specs.declared.result_ext.Key.{Key}
use Rattle.liquid_error.specs.declared.result_ext.FnKey.{FnKey}
use Rattle.liquid_error.specs.meaning.Refusal.{Refusal}
use Rattle.liquid_error.specs.meaning.Told.{told, Becomes}

-- an Ok stays as it is, and the error of an Err is changed
abbrev pub ErrBecomes : {T : Type 0} → (Refusal → Refusal) → Result T Error → Result T Error → Type 0
ErrBecomes change (Ok x) after = after ≡ Ok x
ErrBecomes change (Err old) after = IsErrAnd after (λ new. Becomes change old new)

-- the same, where the change uses a value that was made for it
abbrev pub ErrBecomesBy : {T M : Type 0} → (M → Type 0) → (M → Refusal → Refusal) → Result T Error → Result T Error → Type 0
ErrBecomesBy Made change (Ok x) after = after ≡ Ok x
ErrBecomesBy {M = M} Made change (Err old) after =
    IsErrAnd after (λ new. IfSome (told new) (λ r. (made : M) × Made made × (option_map (change made) (told old) ≡ Some r)))

-- the result that a value of a context is added to
abbrev pub key_result : {T : Type 0} → Key T → Result T Error
key_result k = k.builder

-- the key of that context
abbrev pub key_text : {T : Type 0} → Key T → List ℕ
key_text k = k.key.now

abbrev pub fn_key_result : {T F : Type 0} → FnKey T F → Result T Error
fn_key_result k = k.builder

-- what makes the key of the context
abbrev pub fn_key_maker : {T F : Type 0} → FnKey T F → F
fn_key_maker k = k.key
