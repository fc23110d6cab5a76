-- A string that grows by a digit a turn.
use Rattle.std.proofs.Common.{◌≡◌, ℕ, suc, ◌+◌, ◌-◌, ◌/◌, ◌%◌, ◌^◌, ◌<◌, List, [], ◌∷◌, ◌++◌, length, get_or, drop, refl, arith}
use Rattle.std.proofs.lemmas.List.{append_assoc, length-drop, at_drop_more}
use Rattle.liquid_decimals.specs.meaning.Written.{grouped, places, separator_before}

pub next_place : (t u : List ℕ) (k j n d : ℕ) → k ≡ suc j → d ≡ 48 + n / 10 ^ j % 10 → u ≡ t ++ (d ∷ []) → u ++ places j n ≡ t ++ places k n
next_place t u k j n d e f g = rw (g, f, e, append_assoc) refl

pub next_grouped : (s t u ds : List ℕ) (i d : ℕ) → i < length ds → d ≡ get_or ds i 0
    → u ≡ t ++ (d ∷ separator_before s (length ds - i - 1)) → u ++ grouped s (drop (i + 1) ds) ≡ t ++ grouped s (drop i ds)
next_grouped s t u ds i d h e g =
    let rest : length (drop (i + 1) ds) ≡ length ds - i - 1 = simp length-drop (omega arith) in
    let whole : grouped s (drop i ds) ≡ get_or ds i 0 ∷ (separator_before s (length (drop (i + 1) ds)) ++ grouped s (drop (i + 1) ds)) =
    at_drop_more (grouped s) ds i 0 h in
    rw (g, whole, rest, e, append_assoc) refl
