-- Bytes escaped one by one.
use Rattle.std.proofs.Common.{
  ◌≡◌,
  ℕ,
  ◌+◌,
  ◌-◌,
  ◌<◌,
  ◌≤◌,
  List,
  [],
  ◌∷◌,
  ◌++◌,
  None,
  Some,
  length,
  take,
  drop,
  get_or,
  sym,
  ap,
  ◌∙◌,
  append_assoc,
  append-nil,
  arith,
  unwrap_or,
}
use Rattle.std.specs.List.{slice_range}
use Rattle.std.proofs.lemmas.Grind.{flat_map-append}
use Rattle.std.proofs.lemmas.Bool.Decides.{nat_tests}
use Rattle.std.proofs.lemmas.List.{take_more}
use Rattle.std.proofs.lemmas.List.Edits.{between_more}
use Rattle.liquid_jekyll.specs.meaning.text.Escape.{xml_entity, xml_escaped}

-- a byte, or its entity
abbrev pub byte_or_entity : ℕ → List ℕ
byte_or_entity b = unwrap_or (xml_entity b) (b ∷ [])

pub entity_is_ascii : (b : ℕ) (e : List ℕ) → xml_entity b ≡ Some e → b < 128
entity_is_ascii b e is = grind (arith, nat_tests)

-- a string that is escaped up to a place, and up to the next
escaped_more : (bs : List ℕ) (at : ℕ) → at < length bs
    → xml_escaped (take (at + 1) bs) ≡ xml_escaped (take at bs) ++ byte_or_entity (get_or bs at 0)
escaped_more bs at within =
    ap xml_escaped (take_more bs at 0 within) ∙ flat_map-append byte_or_entity (take at bs) (get_or bs at 0 ∷ [])
    ∙ ap (λ l. xml_escaped (take at bs) ++ l) (append-nil _)

module _ (bs out : List ℕ) (kept at : ℕ) (order : kept ≤ at) (within : at < length bs)
    (held : out ++ slice_range bs kept at ≡ xml_escaped (take at bs)) where
  pub kept_more : None ≡ xml_entity (get_or bs at 0) → out ++ slice_range bs kept (at + 1) ≡ xml_escaped (take (at + 1) bs)
  kept_more none =
      ap (λ l. out ++ l) (between_more bs kept at 0 order within)
      ∙ sym (append_assoc out (slice_range bs kept at) (get_or bs at 0 ∷ []))
      ∙ ap (λ l. l ++ get_or bs at 0 ∷ []) held
      ∙ ap (λ o. xml_escaped (take at bs) ++ unwrap_or o (get_or bs at 0 ∷ [])) none
      ∙ sym (escaped_more bs at within)

  pub entity_more : (e : List ℕ) → Some e ≡ xml_entity (get_or bs at 0) → ((out ++ slice_range bs kept at) ++ e)
      ++ slice_range bs (at + 1) (at + 1) ≡ xml_escaped (take (at + 1) bs)
  entity_more e some =
      let none : at + 1 - (at + 1) ≡ 0 = omega arith in
      ap (λ n. ((out ++ slice_range bs kept at) ++ e) ++ take n (drop (at + 1) bs)) none
      ∙ append-nil _
      ∙ ap (λ l. l ++ e) held
      ∙ ap (λ o. xml_escaped (take at bs) ++ unwrap_or o (get_or bs at 0 ∷ [])) some
      ∙ sym (escaped_more bs at within)
