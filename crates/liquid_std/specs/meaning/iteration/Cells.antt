-- The rows and cells of a table: their numbers, and the texts between the bodies of its items.
use Rattle.std.specs.Prelude.{ℕ, zero, suc, ◌+◌, ◌-◌, ◌/◌, ◌%◌, ◌==◌, pos, List, [], ◌++◌, codes, Bool, true, false, cond}
use Rattle.std.specs.Fmt.{decimal}
use Rattle.liquid_scalar.specs.meaning.Scalar.{integer, boolean}
use Rattle.liquid_value.specs.meaning.Members.{put_member}
use Rattle.liquid_value.specs.meaning.Tree.{Tree, scalar, object, Members}
use Rattle.liquid_runtime.specs.meaning.LoopNames.{forloop_members}

-- the row and the column of the item at a place; these count from 1, and places from 0. Without columns there is one row
abbrev pub row_at : ℕ → ℕ → ℕ
row_at columns place = cond (columns == 0) 1 (place / columns + 1)

abbrev pub column_at : ℕ → ℕ → ℕ
column_at columns place = cond (columns == 0) (place + 1) (place % columns + 1)

-- what is said of a cell, beside these members
abbrev pub cell_members : ℕ → ℕ → ℕ → Members → Members
cell_members columns row column ms =
    put_member (codes "col_last") (scalar (boolean (column == columns))) (
    put_member (codes "col_first") (scalar (boolean (column == 1))) (
    put_member (codes "col0") (scalar (integer (pos (column - 1)))) (
    put_member (codes "col") (scalar (integer (pos column))) (
    put_member (codes "row") (scalar (integer (pos row))) ms))))

-- the object `tablerowloop` of the item at a place: what `forloop` says of it, and what is said of its cell
abbrev pub tablerowloop : ℕ → ℕ → ℕ → Tree
tablerowloop columns place size =
    object (cell_members columns (row_at columns place) (column_at columns place) (forloop_members place size))

abbrev pub opens_row : ℕ → List ℕ
opens_row row = codes "<tr class=\"row" ++ (decimal row ++ codes "\">")

abbrev pub opens_cell : ℕ → List ℕ
opens_cell column = codes "<td class=\"col" ++ (decimal column ++ codes "\">")

abbrev pub closes_row : List ℕ
closes_row = codes "</tr>\n"

-- what opens the first row, or closes the cell before a place
abbrev pub begins : ℕ → List ℕ
begins zero = codes "<tr class=\"row1\">\n"
begins (suc place) = codes "</td>"

-- what is between two rows, if a row begins at a place and is not the first
abbrev pub next_row : ℕ → ℕ → List ℕ
next_row columns zero = []
next_row columns (suc place) = cond (column_at columns (suc place) == 1) (closes_row ++ opens_row (row_at columns (suc place))) []

abbrev pub next_cell : ℕ → ℕ → List ℕ
next_cell columns place = next_row columns place ++ opens_cell (column_at columns place)

-- the text before the body of the item at a place, or after the last body
abbrev pub text_between : ℕ → ℕ → Bool → List ℕ
text_between columns place true = begins place ++ next_cell columns place
text_between columns place false = begins place ++ closes_row
