-- Texts of ASCII characters, character by character.
use Rattle.std.proofs.Common.{
  ◌≡◌,
  ℕ,
  zero,
  suc,
  ◌+◌,
  ◌<◌,
  Bool,
  true,
  false,
  ◌&&◌,
  nat_lt,
  List,
  [],
  ◌∷◌,
  ◌++◌,
  length,
  get_or,
  arith,
  map,
  take,
  ◌∙◌,
  append_assoc,
}
use Rattle.std.proofs.lemmas.Bool.Decides.{nat_tests}
use Rattle.std.proofs.lemmas.List.{map_more}
use Rattle.std.specs.Char.{to_ascii_uppercase}
use Rattle.liquid_dates.specs.meaning.Filling.{is_ascii_text}

head_ascii : (c : ℕ) (b : Bool) → (nat_lt c 128 && b) ≡ true → c < 128
head_ascii c b h = grind arith

tail_ascii : (a b : Bool) → (a && b) ≡ true → b ≡ true
tail_ascii true b h = h
tail_ascii false b h = cc

-- each character of an ASCII text is below 128
pub ascii_at : (xs : List ℕ) (i : ℕ) → is_ascii_text xs ≡ true → i < length xs → get_or xs i 0 < 128
ascii_at [] i h l = absurd (omega arith)
ascii_at (x ∷ xs) zero h l = head_ascii x (is_ascii_text xs) h
ascii_at (x ∷ xs) (suc i) h l = ascii_at xs i (tail_ascii _ _ h) (omega arith)

pub upper_ascii : (c : ℕ) → c < 128 → to_ascii_uppercase c < 128
upper_ascii c h = grind (arith, nat_tests)

-- one more character of a text written in upper case
pub upper_more : (new out old encoded items : List ℕ) (i c : ℕ) → i < length items → is_ascii_text items ≡ true
    → c ≡ to_ascii_uppercase (get_or items i 0) → (c < 128 → encoded ≡ c ∷ []) → new ≡ out ++ encoded → out ≡ old
    ++ map to_ascii_uppercase (take i items) → new ≡ old ++ map to_ascii_uppercase (take (i + 1) items)
upper_more new out old encoded items i c l h e one is so_far =
    let small : c < 128 = rw e (upper_ascii _ (ascii_at items i h l)) in
    is ∙ (rw (so_far, one small, e, map_more to_ascii_uppercase items i 0 l) (append_assoc old _ _))
