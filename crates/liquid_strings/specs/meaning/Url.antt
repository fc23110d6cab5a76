-- Strings in URLs.
use Rattle.std.specs.Prelude.{ℕ, Bool, ◌==◌, ◌||◌, List, [], ◌∷◌, Option, codes, flat_map, if◌then◌else◌}
use Rattle.std.specs.Char.{is_ascii_alphanumeric}
use Rattle.std.specs.Str.{byte}
use Rattle.percent_encoding.specs.Percent.{percent_decode, percent_encode_byte}
use Rattle.liquid_strings.specs.meaning.Replace.{replaced}
use Rattle.liquid_strings.specs.meaning.Utf8.{text_of_bytes}

-- the bytes that mean themselves in a URL: ASCII letters, digits and `_.-~`
abbrev pub stays_in_url : ℕ → Bool
stays_in_url b = is_ascii_alphanumeric b || (b == byte "_" || (b == byte "." || (b == byte "-" || b == byte "~")))

-- such a byte itself, a plus sign for a space, and `%` and two hexadecimal digits for any other byte
abbrev pub url_byte : ℕ → List ℕ
url_byte b = if stays_in_url b then b ∷ [] else if b == byte " " then codes "+" else percent_encode_byte b

-- each byte as it is written in a URL
abbrev pub url_encoded : List ℕ → List ℕ
url_encoded text = flat_map url_byte text

-- the string with a space for each plus sign, and then the byte of each escape, if those bytes are a string
abbrev pub url_decoded : List ℕ → Option (List ℕ)
url_decoded text = text_of_bytes (percent_decode (replaced (codes "+") (codes " ") text))
