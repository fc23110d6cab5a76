-- The text of a table: its rows, and their cells.
use Rattle.std.specs.Prelude.{◌≡◌, ℕ, ◌+◌, ◌==◌, ◌<◌, ◌≤◌, ◌⊎◌, List, [], ◌∷◌, ◌++◌, codes, cond, length}
use Rattle.liquid_std.specs.meaning.iteration.Cells.{opens_row, opens_cell, closes_row}

-- the text of a cell in a column: its body between its tags
abbrev pub cell_text : ℕ → List ℕ → List ℕ
cell_text column body = opens_cell column ++ (body ++ codes "</td>")

-- the texts of cells side by side, from a column on
abbrev pub cells_text : ℕ → List (List ℕ) → List ℕ
cells_text column [] = []
cells_text column (body ∷ bodies) = cell_text column body ++ cells_text (column + 1) bodies

-- a line feed follows the tag of the first row only
abbrev pub begins_row : ℕ → List ℕ
begins_row row = cond (row == 1) (codes "<tr class=\"row1\">\n") (opens_row row)

abbrev pub row_text : ℕ → List (List ℕ) → List ℕ
row_text row bodies = begins_row row ++ (cells_text 1 bodies ++ closes_row)

-- the texts of rows, from the row of this number on
abbrev pub rows_text : ℕ → List (List (List ℕ)) → List ℕ
rows_text row [] = []
rows_text row (bodies ∷ rows) = row_text row bodies ++ rows_text (row + 1) rows

module _ {A : Type 0} where
  -- a row that has room for its cells; without columns there is room for all
  abbrev pub Fits : ℕ → List A → Type 0
  Fits columns row = (columns ≡ 0) ⊎ (length row ≤ columns)

  -- the rows of a table: all rows are full, except that the last may have fewer cells, and only the first has none
  abbrev pub AreRows : ℕ → List (List A) → Type 0
  AreRows columns [] = ⊥
  AreRows columns (row ∷ []) = Fits columns row
  AreRows columns (row ∷ next ∷ rows) = (0 < columns) × (length row ≡ columns) × (0 < length next) × AreRows columns (next ∷ rows)

  -- the cells of rows in order
  abbrev pub in_rows : List (List A) → List A
  in_rows [] = []
  in_rows (row ∷ rows) = row ++ in_rows rows
