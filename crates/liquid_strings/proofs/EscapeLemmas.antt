-- Escaping again leaves entities alone.
use Rattle.std.proofs.Common.{
  ◌≡◌,
  ℕ,
  true,
  ◌&&◌,
  ◌⊎◌,
  List,
  [],
  ◌∷◌,
  ◌++◌,
  None,
  Some,
  length,
  eqb,
  refl,
  sym,
  ap,
  ◌∙◌,
  arith,
  unwrap_or,
  inl,
  inr,
  ⊎_elim,
}
use Rattle.std.proofs.lemmas.Bool.{cases_Bool, cond-true, cond-false, lt-ltb}
use Rattle.std.specs.Prelude.{codes, if◌then◌else◌}
use Rattle.liquid_strings.specs.meaning.Escape.{entity, escaped, escaped_once, goes_on_as_entity, needed_entity}

-- an ampersand before the rest of an entity stays
stays : (others : List ℕ) → goes_on_as_entity others ≡ true → escaped_once (38 ∷ others) ≡ 38 ∷ escaped_once others
stays others goes = ap (λ b. unwrap_or (if b then None else entity 38) (38 ∷ []) ++ escaped_once others) goes

amp_stays : (rest : List ℕ) → escaped_once (codes "&amp;" ++ rest) ≡ codes "&amp;" ++ escaped_once rest
amp_stays rest = stays (97 ∷ 109 ∷ 112 ∷ 59 ∷ rest) (ap (λ b. b && true) (lt-ltb 3 (length (97 ∷ 109 ∷ 112 ∷ 59 ∷ rest)) (omega arith)))

lt_stays : (rest : List ℕ) → escaped_once (codes "&lt;" ++ rest) ≡ codes "&lt;" ++ escaped_once rest
lt_stays rest = stays (108 ∷ 116 ∷ 59 ∷ rest) (ap (λ b. b && true) (lt-ltb 2 (length (108 ∷ 116 ∷ 59 ∷ rest)) (omega arith)))

gt_stays : (rest : List ℕ) → escaped_once (codes "&gt;" ++ rest) ≡ codes "&gt;" ++ escaped_once rest
gt_stays rest = stays (103 ∷ 116 ∷ 59 ∷ rest) (ap (λ b. b && true) (lt-ltb 2 (length (103 ∷ 116 ∷ 59 ∷ rest)) (omega arith)))

quot_stays : (rest : List ℕ) → escaped_once (codes "&quot;" ++ rest) ≡ codes "&quot;" ++ escaped_once rest
quot_stays rest = stays (113 ∷ 117 ∷ 111 ∷ 116 ∷ 59 ∷ rest)
    (ap (λ b. b && true) (lt-ltb 4 (length (113 ∷ 117 ∷ 111 ∷ 116 ∷ 59 ∷ rest)) (omega arith)))

quote_stays : (rest : List ℕ) → escaped_once (codes "&#39;" ++ rest) ≡ codes "&#39;" ++ escaped_once rest
quote_stays rest = stays (35 ∷ 51 ∷ 57 ∷ 59 ∷ rest) (ap (λ b. b && true) (lt-ltb 2 (length (51 ∷ 57 ∷ 59 ∷ rest)) (omega arith)))

-- a byte has no entity, or one that stays
abbrev Stays : ℕ → Type 0
Stays b = (entity b ≡ None) ⊎ ((e : List ℕ) × (entity b ≡ Some e) × ((rest : List ℕ) → escaped_once (e ++ rest) ≡ e ++ escaped_once rest))

entity_stays : (b : ℕ) → Stays b
entity_stays b = ⊎_elim
    (λ is. inr (codes "&amp;", cond-true _ _ _ is, amp_stays))
    (λ no_1. ⊎_elim
    (λ is. inr (codes "&lt;", cond-false _ _ _ no_1 ∙ cond-true _ _ _ is, lt_stays))
    (λ no_2. ⊎_elim
    (λ is. inr (codes "&gt;", cond-false _ _ _ no_1 ∙ cond-false _ _ _ no_2 ∙ cond-true _ _ _ is, gt_stays))
    (λ no_3. ⊎_elim
    (λ is. inr (codes "&quot;", cond-false _ _ _ no_1 ∙ cond-false _ _ _ no_2 ∙ cond-false _ _ _ no_3 ∙ cond-true _ _ _ is, quot_stays))
    (λ no_4. ⊎_elim
    (λ is. inr (
      codes "&#39;",
      cond-false _ _ _ no_1 ∙ cond-false _ _ _ no_2 ∙ cond-false _ _ _ no_3 ∙ cond-false _ _ _ no_4
          ∙ cond-true _ _ _ is,
      quote_stays,
    ))
    (λ no_5. inl (cond-false _ _ _ no_1 ∙ cond-false _ _ _ no_2 ∙ cond-false _ _ _ no_3 ∙ cond-false _ _ _ no_4 ∙ cond-false _ _ _ no_5))
    (cases_Bool (eqb b 39)))
    (cases_Bool (eqb b 34)))
    (cases_Bool (eqb b 62)))
    (cases_Bool (eqb b 60)))
    (cases_Bool (eqb b 38))

none_needed : (b : ℕ) (others : List ℕ) → entity b ≡ None → needed_entity b others ≡ None
none_needed b others none = ⊎_elim
    (λ is. cond-true _ _ _ is)
    (λ is_not. cond-false _ _ _ is_not ∙ none)
    (cases_Bool (eqb b 38 && goes_on_as_entity others))

pub escaped_once_of_escaped : (bytes : List ℕ) → escaped_once (escaped bytes) ≡ escaped bytes
escaped_once_of_escaped [] = refl
escaped_once_of_escaped (b ∷ bs) = ⊎_elim
    (λ none.
    ap (λ o. escaped_once (unwrap_or o (b ∷ []) ++ escaped bs)) none
    ∙ ap (λ o. unwrap_or o (b ∷ []) ++ escaped_once (escaped bs)) (none_needed b (escaped bs) none)
    ∙ ap (λ l. b ∷ l) (escaped_once_of_escaped bs)
    ∙ sym (ap (λ o. unwrap_or o (b ∷ []) ++ escaped bs) none))
    (λ some.
    ap (λ o. escaped_once (unwrap_or o (b ∷ []) ++ escaped bs)) some.1
    ∙ some.2 (escaped bs)
    ∙ ap (λ l. some.0 ++ l) (escaped_once_of_escaped bs)
    ∙ sym (ap (λ o. unwrap_or o (b ∷ []) ++ escaped bs) some.1))
    (entity_stays b)
