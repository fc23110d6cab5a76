-- Laws of words, which together say what the words of any string are: its longest runs without whitespace.
use Rattle.std.specs.Prelude.{◌≡◌, ℕ, ◌<◌, true, false, List, [], ◌∷◌, ◌++◌, length}
use Rattle.std.specs.Char.{encode_utf8, is_whitespace}
use Rattle.std.specs.List.{All}
use Rattle.std.specs.Str.{chars}
use Rattle.liquid_strings.specs.meaning.Split.{words}

-- a whitespace character parts the words before it from those after it
abbrev pub SpacePartsWords : List ℕ → ℕ → List ℕ → Type 0
SpacePartsWords front c back = is_whitespace c ≡ true → words (front ++ (encode_utf8 c ++ back)) ≡ words front ++ words back

-- a string without whitespace is one word, if it is not empty
abbrev pub IsOneWord : List ℕ → Type 0
IsOneWord text = 0 < length text → All (λ c. is_whitespace c ≡ false) (chars text) → words text ≡ text ∷ []
