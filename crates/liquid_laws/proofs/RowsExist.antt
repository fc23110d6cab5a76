-- Any cells stand in rows.
use Rattle.std.proofs.Common.{
  ◌≡◌,
  ℕ,
  suc,
  zero,
  ◌<◌,
  ◌≤◌,
  inl,
  inr,
  List,
  [],
  ◌∷◌,
  ◌++◌,
  Bool,
  true,
  false,
  length,
  drop,
  refl,
  ap,
  ◌∙◌,
  subst,
  sym,
  arith,
}
use Rattle.std.specs.Prelude.{take}
use Rattle.std.proofs.Math.Dec.{ltb}
use Rattle.std.proofs.lemmas.Bool.{ltb-true, ltb-false}
use Rattle.std.proofs.lemmas.List.{append-nil, take-append-drop, length-drop, length-take}
use Rattle.liquid_laws.specs.meaning.loops.Rows.{AreRows, in_rows}

module _ {A : Type 0} where
  -- cells in rows of more than c columns, of which the first has a cell if there is one
  abbrev Stands : ℕ → List A → Type 0
  Stands c cells =
      (first : List A) × ((rows : List (List A)) × AreRows (suc c) (first ∷ rows) × (in_rows (first ∷ rows) ≡ cells)
      × (0 < length cells → 0 < length first))

  alone : (c : ℕ) (cells : List A) → length cells ≤ suc c → Stands c cells
  alone c cells fits = (cells, ([], inr fits, append-nil cells, λ some. some))

  over : (c : ℕ) (cells : List A) (is_longer : Bool) → ltb (suc c) (length cells) ≡ is_longer → Stands c (drop (suc c) cells)
      → Stands c cells
  over c cells false is rest = alone c cells (ltb-false (suc c) (length cells) is)
  over c cells true is rest =
      let longer = ltb-true (suc c) (length cells) is in
      let full : length (take (suc c) cells) ≡ suc c = length-take (suc c) cells ∙ omega arith in
      let some : 0 < length (drop (suc c) cells) = subst (λ n. 0 < n) (sym (length-drop (suc c) cells)) (omega arith) in (
        take (suc c) cells,
        (
          rest.0 ∷ rest.1.0,
          (omega arith, full, rest.1.3 some, rest.1.1),
          ap (λ ys. take (suc c) cells ++ ys) rest.1.2 ∙ take-append-drop (suc c) cells,
          λ any. omega arith,
        ),
      )

  standing : (c most : ℕ) (cells : List A) → length cells ≤ most → Stands c cells
  standing c zero cells fits = alone c cells (omega arith)
  standing c (suc most) cells fits =
      over c cells (ltb (suc c) (length cells)) refl
      (standing c most (drop (suc c) cells) (subst (λ n. n ≤ most) (sym (length-drop (suc c) cells)) (omega arith)))

  pub rows_exist : (columns : ℕ) (cells : List A) → (rows : List (List A)) × AreRows columns rows × (in_rows rows ≡ cells)
  rows_exist zero cells = (cells ∷ [], inl refl, append-nil cells)
  rows_exist (suc c) cells =
      let stands = standing c (length cells) cells (omega arith) in (stands.0 ∷ stands.1.0, stands.1.1, stands.1.2)
