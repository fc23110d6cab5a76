-- Parts of URLs, in which each byte is written in one way.
use Rattle.std.specs.Prelude.{ℕ, Bool, ◌==◌, ◌&&◌, ◌||◌, not, List, [], ◌∷◌, chars, codes, encode_utf8_all, flat_map, if◌then◌else◌}
use Rattle.std.specs.Char.{is_ascii_alphanumeric}
use Rattle.std.specs.List.{list_any}
use Rattle.std.specs.Str.{is_utf8}
use Rattle.percent_encoding.specs.Percent.{percent_decode, percent_encode_byte}
use Rattle.unicode_normalization.specs.Forms.{nfkc}
use Rattle.liquid_jekyll.specs.declared.url.parts.UrlPart.{UrlPart}
use Rattle.liquid_jekyll.specs.declared.url.parts.UrlPart.TheVariants.{Whole, Segment, Field, Fragment}

-- whether a byte is one of these
abbrev pub is_of : List ℕ → ℕ → Bool
is_of marks b = list_any (λ mark. mark == b) marks

-- whether a byte means itself in a segment of a path: letters and digits of ASCII, and some marks
abbrev pub keeps_in_segment : ℕ → Bool
keeps_in_segment b = is_ascii_alphanumeric b || is_of (codes "-._~!$&'()*+,;=:@") b

-- whether a byte means itself in a part of a URL
abbrev pub keeps : UrlPart → ℕ → Bool
keeps Whole b = keeps_in_segment b || is_of (codes "/?#[]") b
keeps Segment b = keeps_in_segment b
keeps Field b = (keeps_in_segment b && not (is_of (codes "&;") b)) || is_of (codes "/?") b
keeps Fragment b = keeps_in_segment b || is_of (codes "/?") b

-- a byte that means itself, or the escape of one that doesn't
abbrev pub escaped_byte : UrlPart → ℕ → List ℕ
escaped_byte part b = if keeps part b then b ∷ [] else percent_encode_byte b

abbrev pub escaped : UrlPart → List ℕ → List ℕ
escaped part bytes = flat_map (escaped_byte part) bytes

-- bytes as a part of a URL: if they are a string, its normal form, escaped; otherwise they are escaped as in a whole URL
abbrev pub cleaned_bytes : UrlPart → List ℕ → List ℕ
cleaned_bytes part bytes =
    if is_utf8 bytes then escaped part (encode_utf8_all (nfkc (chars bytes))) else escaped Whole bytes

-- the text as a part of a URL, with the byte in place of each escape that it has
abbrev pub cleaned : UrlPart → List ℕ → List ℕ
cleaned part text = cleaned_bytes part (percent_decode text)
