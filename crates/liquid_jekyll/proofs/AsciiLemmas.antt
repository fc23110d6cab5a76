-- Characters in ASCII, one by one.
use Rattle.std.proofs.Common.{◌≡◌, ℕ, List, ◌∷◌, ◌++◌, ap, append_assoc, sym, ◌∙◌}
use Rattle.std.proofs.lemmas.Str.{chars_past_char, encodes-append}
use Rattle.std.specs.Char.{encode_utf8}
use Rattle.std.specs.List.{flat_map}
use Rattle.std.specs.Str.{chars, encode_utf8_all, IsUtf8}
use Rattle.liquid_jekyll.specs.meaning.text.Latin.{ascii_of}

-- a string that is still to be written
abbrev pub unwritten : List ℕ → List ℕ
unwritten bs = encode_utf8_all (flat_map ascii_of (chars bs))

-- what is written so far and what is still to be written are the whole, after one character more
pub ascii_step : (bs rest : List ℕ) (c : ℕ) → IsUtf8 bs → bs ≡ encode_utf8 c ++ rest → (out whole : List ℕ)
    → out ++ unwritten bs ≡ whole → (out ++ encode_utf8_all (ascii_of c)) ++ unwritten rest ≡ whole
ascii_step bs rest c text parts out whole held =
    append_assoc out (encode_utf8_all (ascii_of c)) (unwritten rest)
    ∙ ap (λ l. out ++ l) (sym (encodes-append (ascii_of c) (flat_map ascii_of (chars rest))))
    ∙ ap (λ cs. out ++ encode_utf8_all (flat_map ascii_of cs)) (sym (chars_past_char bs rest c text parts))
    ∙ held
