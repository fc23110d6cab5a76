-- Strings by their characters.
use Rattle.std.proofs.Common.{
  ◌≡◌,
  ℕ,
  List,
  [],
  ◌∷◌,
  ◌++◌,
  Option,
  None,
  map,
  length,
  take,
  drop,
  refl,
  sym,
  ap,
  ◌∙◌,
  append_assoc,
  append-nil,
}
use Rattle.std.proofs.Math.Seq.{take-append_seam, drop-append_seam}
use Rattle.std.specs.Char.{encode_utf8}
use Rattle.std.specs.Char.Iter.{case_mapping_chars, case_mapping_first, case_mapping_second, case_mapping_third}
use Rattle.std.specs.Char.Unicode.ToLowercase.{to_lowercase}
use Rattle.std.specs.Char.Unicode.ToUppercase.{to_uppercase}
use Rattle.std.specs.List.{flat_map}
use Rattle.std.specs.Str.{chars, encode_utf8_all, IsUtf8, IsCharBoundary}
use Rattle.std.proofs.lemmas.Str.{chars_past_char, chars-nil, encodes-append, IsUtf8-past_char, IsCharBoundary-at_seam}
use Rattle.liquid_strings.specs.meaning.Cases.{lowercased, capitalized, capital_first}

-- what is left of a change of case has no gap
abbrev pub NoGap : Option ℕ → Option ℕ → Option ℕ → Type 0
NoGap first second third = (first ≡ None → second ≡ None) × (second ≡ None → third ≡ None)

-- .. so nothing is left if it has no first character
pub no_more : (m : _) → NoGap (case_mapping_first m) (case_mapping_second m) (case_mapping_third m) → None ≡ case_mapping_first m
    → case_mapping_chars m ≡ []
no_more m gap none =
    let second = gap.0 (sym none) in
    let third = gap.1 second in
    rw (sym none, second, third) refl

module _ (bs rest : List ℕ) (c : ℕ) (u : IsUtf8 bs) (e : bs ≡ encode_utf8 c ++ rest) where
  -- a string by its first character and the others
  pub lowercased_step : lowercased bs ≡ encode_utf8_all (to_lowercase c) ++ lowercased rest
  lowercased_step = ap (λ cs. encode_utf8_all (flat_map to_lowercase cs)) (chars_past_char bs rest c u e)
      ∙ encodes-append (to_lowercase c) (flat_map to_lowercase (chars rest))

  pub capitalized_step : capitalized bs ≡ encode_utf8_all (to_uppercase c) ++ lowercased rest
  capitalized_step = ap (λ cs. encode_utf8_all (capital_first cs)) (chars_past_char bs rest c u e)
      ∙ encodes-append (to_uppercase c) (flat_map to_lowercase (chars rest))

  pub encoded_step : map encode_utf8 (chars bs) ≡ encode_utf8 c ∷ map encode_utf8 (chars rest)
  encoded_step = ap (map encode_utf8) (chars_past_char bs rest c u e)

-- a string that is cut after its first character
pub record CutsFirst (bs rest : List ℕ) (c n : ℕ) : Type 0 where
  pub cut : IsCharBoundary bs n
  pub front : take n bs ≡ encode_utf8 c
  pub back : drop n bs ≡ rest

pub cuts_first : (bs rest : List ℕ) (c n : ℕ) → IsUtf8 bs → bs ≡ encode_utf8 c ++ rest → n ≡ length (encode_utf8 c) → CutsFirst bs rest c n
cuts_first bs rest c n u e len = record {
  cut = rw len (IsCharBoundary-at_seam bs (encode_utf8 c) rest e (IsUtf8-past_char bs rest c u e));
  front = rw (len, e) (take-append_seam (encode_utf8 c) rest);
  back = rw (len, e) (drop-append_seam (encode_utf8 c) rest);
}

pub lowercased_empty : lowercased [] ≡ []
lowercased_empty = ap (λ cs. encode_utf8_all (flat_map to_lowercase cs)) chars-nil

pub capitalized_empty : capitalized [] ≡ []
capitalized_empty = ap (λ cs. encode_utf8_all (capital_first cs)) chars-nil

-- what was written, after one more part
pub written_more : (new old part more rest whole : List ℕ) → new ++ [] ≡ old ++ part → rest ≡ part ++ more → old ++ rest ≡ whole → new
    ++ more ≡ whole
written_more new old part more rest whole step parts held =
    ap (λ l. l ++ more) (sym (append-nil new) ∙ step) ∙ append_assoc old part more ∙ ap (λ l. old ++ l) (sym parts) ∙ held
