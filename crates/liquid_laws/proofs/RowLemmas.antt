-- The texts around the bodies of a table are those of its rows.
use Rattle.std.proofs.Common.{
  ◌≡◌,
  ℕ,
  suc,
  zero,
  ◌+◌,
  ◌*◌,
  ◌<◌,
  ◌≤◌,
  ◌⊎◌,
  inl,
  inr,
  List,
  [],
  ◌∷◌,
  ◌++◌,
  Bool,
  true,
  false,
  cond,
  codes,
  length,
  refl,
  sym,
  ap,
  ◌∙◌,
  subst,
  add-one,
  arith,
}
use Rattle.std.specs.Prelude.{◌==◌, ◌/◌, ◌%◌}
use Rattle.std.proofs.lemmas.List.{append_assoc, append-nil}
use Rattle.std.proofs.lemmas.Nat.{div-mul-add, mod-mul-add}
use Rattle.std.proofs.lemmas.Bool.{ne_eqb}
use Rattle.std.proofs.Math.Dec.{eqb-suc-zero}
use Rattle.liquid_std.specs.meaning.iteration.Cells.{begins, closes_row, column_at, opens_cell, opens_row, row_at, text_between}
use Rattle.liquid_laws.specs.meaning.loops.Rows.{AreRows, Fits, cell_text, cells_text, in_rows, row_text, rows_text}

-- what a table writes from a place on, around these bodies
abbrev pub around : ℕ → ℕ → List (List ℕ) → List ℕ
around columns place [] = text_between columns place false
around columns place (body ∷ bodies) = text_between columns place true ++ (body ++ around columns (place + 1) bodies)

-- a place in a row, after this many of its cells, with this many to come
abbrev Within : ℕ → ℕ → ℕ → ℕ → ℕ → Type 0
Within columns place row before after =
    ((columns ≡ 0) × (place ≡ before) × (row ≡ 0)) ⊎ ((before + after ≤ columns) × (place ≡ row * columns + before))

column_is : (columns place row before after : ℕ) → Within columns place row before (suc after) → column_at columns place ≡ suc before
column_is zero place row before after (inl w) = ap (λ n. n + 1) w.1 ∙ add-one before
column_is zero place row before after (inr w) = absurd (omega arith)
column_is (suc c) place row before after (inl w) = absurd (omega arith)
column_is (suc c) place row before after (inr w) =
    ap (λ b. cond b (place + 1) (place % suc c + 1)) (eqb-suc-zero c)
    ∙ ap (λ n. n % suc c + 1) w.1 ∙ ap (λ n. n + 1) (mod-mul-add row (suc c) before (omega arith)) ∙ add-one before

next_within : (columns place row before after : ℕ) → Within columns place row before (suc after)
    → Within columns (place + 1) row (suc before) after
next_within columns place row before after (inl w) = inl (w.0, omega arith, w.2)
next_within columns place row before after (inr w) = inr (omega arith, omega arith)

abbrev ends_cell : List ℕ
ends_cell = codes "</td>"

-- what comes before a cell that another one of its row precedes
beside : (columns p row j after : ℕ) → Within columns (suc p) row (suc j) (suc after)
    → text_between columns (suc p) true ≡ ends_cell ++ opens_cell (suc (suc j))
beside columns p row j after w =
    let between : List ℕ = closes_row ++ opens_row (row_at columns (suc p)) in
    ap (λ c. ends_cell ++ (cond (c == 1) between [] ++ opens_cell c)) (column_is columns (suc p) row (suc j) after w)
    ∙ ap (λ b. ends_cell ++ (cond b between [] ++ opens_cell (suc (suc j)))) (ne_eqb (suc (suc j)) 1 (λ e. omega arith))

row_is : (c place row : ℕ) → place ≡ row * suc c → row_at (suc c) place ≡ suc row
row_is c place row at =
    ap (λ b. cond b 1 (place / suc c + 1)) (eqb-suc-zero c)
    ∙ ap (λ n. n / suc c + 1) (at ∙ omega arith) ∙ ap (λ n. n + 1) (div-mul-add row (suc c) 0 (omega arith)) ∙ add-one row

-- what comes before the first cell of a row that is not the first
below : (c p row : ℕ) → suc p ≡ suc row * suc c
    → text_between (suc c) (suc p) true ≡ ends_cell ++ ((closes_row ++ opens_row (suc (suc row))) ++ opens_cell 1)
below c p row at =
    let between : ℕ → List ℕ = λ r. closes_row ++ opens_row r in
    ap (λ k. ends_cell ++ (cond (k == 1) (between (row_at (suc c) (suc p))) [] ++ opens_cell k))
    (column_is (suc c) (suc p) (suc row) 0 0 (inr (omega arith, omega arith)))
    ∙ ap (λ r. ends_cell ++ (between r ++ opens_cell 1)) (row_is c (suc p) (suc row) at)

-- pieces side by side
joined : (a b x d e : List ℕ) → (a ++ b) ++ (x ++ (a ++ (d ++ e))) ≡ a ++ (((b ++ (x ++ a)) ++ d) ++ e)
joined a b x d e = simp append_assoc refl

-- the cells of a row after others, and what follows them
row_rest : (columns row : ℕ) (later : List (List ℕ)) (rest : List ℕ) (cells : List (List ℕ)) (p j : ℕ)
    → Within columns (suc p) row (suc j) (length cells)
    → ((q : ℕ) → suc q ≡ suc p + length cells → around columns (suc q) later ≡ ends_cell ++ rest)
    → around columns (suc p) (cells ++ later) ≡ ends_cell ++ (cells_text (suc (suc j)) cells ++ rest)
row_rest columns row later rest [] p j w follows = follows p (omega arith)
row_rest columns row later rest (body ∷ cells) p j w follows =
    ap (λ text. text ++ (body ++ around columns (suc p + 1) (cells ++ later))) (beside columns p row j (length cells) w)
    ∙ ap (λ text. (ends_cell ++ opens_cell (suc (suc j))) ++ (body ++ text))
    (ap (λ n. around columns n (cells ++ later)) (add-one (suc p))
    ∙ row_rest columns row later rest cells (suc p) (suc j)
    (subst (λ n. Within columns n row (suc (suc j)) (length cells)) (add-one (suc p))
    (next_within columns (suc p) row (suc j) (length cells) w))
    (λ q is. follows q (omega arith)))
    ∙ joined ends_cell (opens_cell (suc (suc j))) body (cells_text (suc (suc (suc j))) cells) rest
    ∙ ap (λ k. ends_cell ++ ((cell_text (suc (suc j)) body ++ cells_text k cells) ++ rest)) (sym (add-one (suc (suc j))))

-- the pieces of a row and of what follows it
stacked : (a b c o x d f : List ℕ)
    → (a ++ ((b ++ c) ++ o)) ++ (x ++ (a ++ (d ++ (b ++ f)))) ≡ a ++ (b ++ ((c ++ (((o ++ (x ++ a)) ++ d) ++ b)) ++ f))
stacked a b c o x d f = simp append_assoc refl

-- a row after others, and what follows it
row_below : (c row q : ℕ) (body : List ℕ) (cells later : List (List ℕ)) (rest : List ℕ) → suc q ≡ suc row * suc c
    → suc (length cells) ≤ suc c
    → ((p : ℕ) → suc p ≡ suc q + suc (length cells) → around (suc c) (suc p) later ≡ ends_cell ++ (closes_row ++ rest))
    → around (suc c) (suc q) ((body ∷ cells) ++ later)
    ≡ ends_cell ++ (closes_row ++ (row_text (suc (suc row)) (body ∷ cells) ++ rest))
row_below c row q body cells later rest at fits follows =
    ap (λ text. text ++ (body ++ around (suc c) (suc q + 1) (cells ++ later))) (below c q row at)
    ∙ ap (λ text. (ends_cell ++ ((closes_row ++ opens_row (suc (suc row))) ++ opens_cell 1)) ++ (body ++ text))
    (ap (λ n. around (suc c) n (cells ++ later)) (add-one (suc q))
    ∙ row_rest (suc c) (suc row) later (closes_row ++ rest) cells (suc q) 0 (inr (omega arith, omega arith))
    (λ p is. follows p (omega arith)))
    ∙ stacked ends_cell closes_row (opens_row (suc (suc row))) (opens_cell 1) body (cells_text 2 cells) rest
    ∙ ap (λ (b : Bool). ends_cell ++ (closes_row ++ ((cond b (codes "<tr class=\"row1\">\n") (opens_row (suc (suc row)))
    ++ (cells_text 1 (body ∷ cells) ++ closes_row)) ++ rest))) (sym (ne_eqb (suc (suc row)) 1 (λ e. omega arith)))

fits_in : {A : Type 0} (c : ℕ) (row : List A) → Fits (suc c) row → length row ≤ suc c
fits_in c row (inl none) = absurd (omega arith)
fits_in c row (inr fits) = fits

-- rows after others
rows_below : (c row q : ℕ) (first : List (List ℕ)) (rows : List (List (List ℕ))) → suc q ≡ suc row * suc c → 0 < length first
    → AreRows (suc c) (first ∷ rows)
    → around (suc c) (suc q) (in_rows (first ∷ rows)) ≡ ends_cell ++ (closes_row ++ rows_text (suc (suc row)) (first ∷ rows))
rows_below c row q [] rows at some are = absurd (omega arith)
rows_below c row q (body ∷ cells) [] at some are =
    row_below c row q body cells [] [] at (fits_in c (body ∷ cells) are) (λ p is. refl)
rows_below c row q (body ∷ cells) (next ∷ rows) at some are =
    row_below c row q body cells (in_rows (next ∷ rows)) (rows_text (suc (suc row) + 1) (next ∷ rows)) at (omega arith)
    (λ p is. rows_below c (suc row) p next rows (omega arith) are.2 are.3
    ∙ ap (λ n. ends_cell ++ (closes_row ++ rows_text n (next ∷ rows))) (sym (add-one (suc (suc row)))))

first_column : (columns : ℕ) → column_at columns 0 ≡ 1
first_column zero = refl
first_column (suc c) = column_is (suc c) 0 0 0 0 (inr (omega arith, omega arith))

-- the pieces of the first row
first_stacked : (a b c o x d f : List ℕ) → (c ++ o) ++ (x ++ (a ++ (d ++ (b ++ f)))) ≡ (c ++ (((o ++ (x ++ a)) ++ d) ++ b)) ++ f
first_stacked a b c o x d f = simp append_assoc refl

first_row : (columns : ℕ) (body : List ℕ) (cells later : List (List ℕ)) (rest : List ℕ) → Within columns 1 0 1 (length cells)
    → ((p : ℕ) → suc p ≡ 1 + length cells → around columns (suc p) later ≡ ends_cell ++ (closes_row ++ rest))
    → around columns 0 ((body ∷ cells) ++ later) ≡ row_text 1 (body ∷ cells) ++ rest
first_row columns body cells later rest w follows =
    ap (λ k. (begins 0 ++ opens_cell k) ++ (body ++ around columns 1 (cells ++ later))) (first_column columns)
    ∙ ap (λ text. (begins 0 ++ opens_cell 1) ++ (body ++ text)) (row_rest columns 0 later (closes_row ++ rest) cells 0 0 w follows)
    ∙ first_stacked ends_cell closes_row (begins 0) (opens_cell 1) body (cells_text 2 cells) rest

fits_within : {A : Type 0} (columns : ℕ) (x : A) (xs : List A) → Fits columns (x ∷ xs) → Within columns 1 0 1 (length xs)
fits_within columns x xs (inl none) = inl (none, refl, refl)
fits_within columns x xs (inr fits) = inr (omega arith, omega arith)

-- around the bodies in rows a table writes the texts of the rows
pub rows_around : (columns : ℕ) (rows : List (List (List ℕ))) → AreRows columns rows → around columns 0 (in_rows rows) ≡ rows_text 1 rows
rows_around columns [] are = absurd are
rows_around columns ([] ∷ []) are = sym (append-nil (begins 0 ++ closes_row))
rows_around columns ((body ∷ cells) ∷ []) are =
    first_row columns body cells [] [] (fits_within columns body cells are) (λ p is. refl)
rows_around columns ([] ∷ next ∷ rows) are = absurd (omega arith)
rows_around zero ((body ∷ cells) ∷ next ∷ rows) are = absurd (omega arith)
rows_around (suc c) ((body ∷ cells) ∷ next ∷ rows) are =
    first_row (suc c) body cells (in_rows (next ∷ rows)) (rows_text 2 (next ∷ rows)) (inr (omega arith, omega arith))
    (λ p is. rows_below c 0 p next rows (omega arith) are.2 are.3)
