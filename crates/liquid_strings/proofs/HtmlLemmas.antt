-- Bytes escaped one by one.
use Rattle.std.proofs.Common.{
  ◌≡◌,
  ℕ,
  ◌+◌,
  ◌-◌,
  ◌<◌,
  ◌≤◌,
  List,
  [],
  ◌∷◌,
  ◌++◌,
  None,
  Some,
  length,
  take,
  drop,
  get_or,
  sym,
  ap,
  ◌∙◌,
  append_assoc,
  append-nil,
  arith,
  eqb,
  unwrap_or,
  ⊎_elim,
  ◌&&◌,
}
use Rattle.std.specs.List.{slice_range}
use Rattle.std.proofs.lemmas.Grind.{flat_map-append}
use Rattle.std.proofs.lemmas.Bool.Decides.{nat_tests}
use Rattle.std.proofs.lemmas.Bool.{cases_Bool, cond-true, cond-false}
use Rattle.std.proofs.lemmas.List.{drop_more, length-drop, take_all, take_more}
use Rattle.std.proofs.lemmas.List.Edits.{between_more}
use Rattle.liquid_strings.specs.meaning.Escape.{entity, escaped, escaped_byte, escaped_once, goes_on_as_entity, needed_entity}

pub entity_is_ascii : (b : ℕ) (e : List ℕ) → entity b ≡ Some e → b < 128
entity_is_ascii b e is = grind (arith, nat_tests)

-- a string that is escaped up to a place, and up to the next
escaped_more : (bs : List ℕ) (at : ℕ) → at < length bs → escaped (take (at + 1) bs) ≡ escaped (take at bs) ++ escaped_byte (get_or bs at 0)
escaped_more bs at within =
    ap escaped (take_more bs at 0 within) ∙ flat_map-append escaped_byte (take at bs) (get_or bs at 0 ∷ [])
    ∙ ap (λ l. escaped (take at bs) ++ l) (append-nil _)

module _ (bs out : List ℕ) (kept at : ℕ) (order : kept ≤ at) (within : at < length bs)
    (held : out ++ slice_range bs kept at ≡ escaped (take at bs)) where
  pub kept_more : None ≡ entity (get_or bs at 0) → out ++ slice_range bs kept (at + 1) ≡ escaped (take (at + 1) bs)
  kept_more none =
      ap (λ l. out ++ l) (between_more bs kept at 0 order within)
      ∙ sym (append_assoc out (slice_range bs kept at) (get_or bs at 0 ∷ []))
      ∙ ap (λ l. l ++ get_or bs at 0 ∷ []) held
      ∙ ap (λ o. escaped (take at bs) ++ unwrap_or o (get_or bs at 0 ∷ [])) none
      ∙ sym (escaped_more bs at within)

  pub entity_more : (e : List ℕ) → Some e ≡ entity (get_or bs at 0) → ((out ++ slice_range bs kept at) ++ e)
      ++ slice_range bs (at + 1) (at + 1) ≡ escaped (take (at + 1) bs)
  entity_more e some =
      let none : at + 1 - (at + 1) ≡ 0 = omega arith in
      ap (λ n. ((out ++ slice_range bs kept at) ++ e) ++ take n (drop (at + 1) bs)) none
      ∙ append-nil _
      ∙ ap (λ l. l ++ e) held
      ∙ ap (λ o. escaped (take at bs) ++ unwrap_or o (get_or bs at 0 ∷ [])) some
      ∙ sym (escaped_more bs at within)

-- the same, depending on what follows
pub needed_is_ascii : (b : ℕ) (others e : List ℕ) → Some e ≡ needed_entity b others → b < 128
needed_is_ascii b others e is = ⊎_elim
    (λ yes. absurd (cc (sym (cond-true _ _ _ yes) ∙ sym is)))
    (λ fails. entity_is_ascii b e (sym (is ∙ cond-false _ _ _ fails)))
    (cases_Bool (eqb b 38 && goes_on_as_entity others))

module _ (bs out whole : List ℕ) (kept at : ℕ) (order : kept ≤ at) (within : at < length bs)
    (held : out ++ (slice_range bs kept at ++ escaped_once (drop at bs)) ≡ whole) where
  -- what is left, by its first byte
  once_step : escaped_once (drop at bs) ≡ unwrap_or (needed_entity (get_or bs at 0) (drop (at + 1) bs)) (get_or bs at 0 ∷ [])
      ++ escaped_once (drop (at + 1) bs)
  once_step = ap escaped_once (drop_more bs at 0 within)

  pub once_kept : None ≡ needed_entity (get_or bs at 0) (drop (at + 1) bs) → out
      ++ (slice_range bs kept (at + 1) ++ escaped_once (drop (at + 1) bs)) ≡ whole
  once_kept none =
      let rest = escaped_once (drop (at + 1) bs) in
      ap (λ l. out ++ (l ++ rest)) (between_more bs kept at 0 order within)
      ∙ ap (λ l. out ++ l) (append_assoc (slice_range bs kept at) (get_or bs at 0 ∷ []) rest)
      ∙ ap (λ o. out ++ (slice_range bs kept at ++ (unwrap_or o (get_or bs at 0 ∷ []) ++ rest))) none
      ∙ ap (λ l. out ++ (slice_range bs kept at ++ l)) (sym once_step)
      ∙ held

  pub once_entity : (e : List ℕ) → Some e ≡ needed_entity (get_or bs at 0) (drop (at + 1) bs)
      → ((out ++ slice_range bs kept at) ++ e) ++ (slice_range bs (at + 1) (at + 1) ++ escaped_once (drop (at + 1) bs)) ≡ whole
  once_entity e some =
      let rest = escaped_once (drop (at + 1) bs) in
      let none : at + 1 - (at + 1) ≡ 0 = omega arith in
      ap (λ n. ((out ++ slice_range bs kept at) ++ e) ++ (take n (drop (at + 1) bs) ++ rest)) none
      ∙ append_assoc (out ++ slice_range bs kept at) e rest
      ∙ append_assoc out (slice_range bs kept at) (e ++ rest)
      ∙ ap (λ o. out ++ (slice_range bs kept at ++ (unwrap_or o (get_or bs at 0 ∷ []) ++ rest))) some
      ∙ ap (λ l. out ++ (slice_range bs kept at ++ l)) (sym once_step)
      ∙ held

-- a part to the end
pub to_end : (bs : List ℕ) (k : ℕ) → take (length bs - k) (drop k bs) ≡ drop k bs
to_end bs k = take_all (length bs - k) (drop k bs) (omega (arith, length-drop k bs))
