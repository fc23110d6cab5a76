-- Characters of texts.
use Rattle.std.proofs.Common.{◌≡◌, ℕ, List, [], ◌∷◌, length, arith, None, refl}
use Rattle.std.specs.Str.{chars}
use Rattle.std.proofs.lemmas.Str.{chars-nil}
use Rattle.liquid_dates.specs.meaning.Letters.{letter_directive, number_letter, name_letter, composite_letter, fraction_letter}

pub chars_of_empty : (text : List ℕ) → length text ≡ 0 → chars text ≡ []
chars_of_empty [] e = chars-nil
chars_of_empty (c ∷ cs) e = absurd (omega arith)

-- `:` means nothing
pub colon_letter : letter_directive 58 ≡ None
unfolding letter_directive number_letter name_letter composite_letter fraction_letter
colon_letter = refl
