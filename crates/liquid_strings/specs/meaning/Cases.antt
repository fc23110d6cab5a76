-- Strings with their characters in another case.
use Rattle.std.specs.Prelude.{ℕ, List, [], ◌∷◌, ◌++◌, chars, encode_utf8_all, flat_map}
use Rattle.std.specs.Char.Unicode.ToLowercase.{to_lowercase}
use Rattle.std.specs.Char.Unicode.ToUppercase.{to_uppercase}

-- each character in lower case
abbrev pub lowercased : List ℕ → List ℕ
lowercased bytes = encode_utf8_all (flat_map to_lowercase (chars bytes))

-- for characters: the first in upper case, the others in lower case
abbrev pub capital_first : List ℕ → List ℕ
capital_first [] = []
capital_first (c ∷ cs) = to_uppercase c ++ flat_map to_lowercase cs

-- the first character in upper case, the others in lower case
abbrev pub capitalized : List ℕ → List ℕ
capitalized bytes = encode_utf8_all (capital_first (chars bytes))
