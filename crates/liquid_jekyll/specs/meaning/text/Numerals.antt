-- Integers at the start of a string.
use Rattle.std.specs.Prelude.{ℕ, ◌+◌, Bool, ◌==◌, ◌&&◌, ◌||◌, nat_le, cond, List, [], ◌∷◌, drop, take}
use Rattle.std.specs.List.{prefix_len}
use Rattle.std.specs.Str.{byte}
use Rattle.liquid_jekyll.specs.meaning.text.Spaces.{without_leading}

abbrev pub is_digit : ℕ → Bool
is_digit b = nat_le (byte "0") b && nat_le b (byte "9")

-- the number of bytes of a sign
abbrev pub sign_length : List ℕ → ℕ
sign_length [] = 0
sign_length (b ∷ bs) = cond (b == byte "-" || b == byte "+") 1 0

-- the number of digits after a sign
abbrev pub digit_count : List ℕ → ℕ
digit_count text = prefix_len is_digit (drop (sign_length text) text)

-- the sign and the digits with which a string begins; nothing without a digit
abbrev pub numeral_at : List ℕ → List ℕ
numeral_at text = cond (digit_count text == 0) [] (take (sign_length text + digit_count text) text)

-- the same after whitespace
abbrev pub numeral : List ℕ → List ℕ
numeral text = numeral_at (without_leading text)
