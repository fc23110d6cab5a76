-- Bytes that are a string, or are not.
use Rattle.std.proofs.Common.{◌≡◌, ℕ, List, Some, None, String, sym, ap, ◌∙◌, ⊎_elim, subst}
use Rattle.std.proofs.lemmas.Bool.{cond-true, cond-false, cases_Bool}
use Rattle.std.proofs.lemmas.Str.{is_utf8-from_IsUtf8, IsUtf8-from_is_utf8, IsUtf8-string_bytes}
use Rattle.std.specs.Str.{is_utf8, IsUtf8}
use Rattle.std.specs.String.{string_bytes}
use Rattle.liquid_strings.specs.meaning.Utf8.{text_of_bytes}

pub is_text : {Z : Type 0} (t : String Z) (bs : List ℕ) → string_bytes t ≡ bs → Some (string_bytes t) ≡ text_of_bytes bs
is_text t bs e =
    let u : IsUtf8 bs = subst IsUtf8 e (IsUtf8-string_bytes t) in
    ap Some e ∙ sym (cond-true _ _ _ (is_utf8-from_IsUtf8 bs u))

pub no_text : (bs : List ℕ) → ¬ (IsUtf8 bs) → None ≡ text_of_bytes bs
no_text bs fails = ⊎_elim
    (λ yes. absurd (fails (IsUtf8-from_is_utf8 bs yes)))
    (λ not_utf8. sym (cond-false _ _ _ not_utf8))
    (cases_Bool (is_utf8 bs))
