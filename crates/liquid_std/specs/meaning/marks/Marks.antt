-- The marks that a register holds.
use Rattle.std.specs.Prelude.{ℕ, List, Bool, false, bytes_eq, Option, None, Some, option_map, string_bytes, unwrap_or}
use Rattle.std.specs.FinMap.{empty, get, insert}
use Rattle.liquid_std.specs.declared.marks.marks.Marks.{Marks}
use Rattle.liquid_std.specs.declared.marks.marks.MarksShape.{MarksShape}

-- what is seen of the marks: without a map no group has a place
abbrev pub marks_of : Marks → MarksShape
marks_of m = record { places = unwrap_or m.places empty; last = option_map (λ s. string_bytes s) m.last }

-- no group has a place, and no `ifchanged` was rendered
abbrev pub no_marks : MarksShape
no_marks = record { places = empty; last = None }

-- the place of a group, which is 0 at first
abbrev pub place_of : MarksShape → List ℕ → ℕ
place_of m key = unwrap_or (get m.places key) 0

abbrev pub with_place : List ℕ → ℕ → MarksShape → MarksShape
with_place key place m = record m { places = insert m.places key place }

-- whether a text is that of the last `ifchanged`
abbrev pub is_text : List ℕ → Option (List ℕ) → Bool
is_text text None = false
is_text text (Some last) = bytes_eq last text

abbrev pub is_last : List ℕ → MarksShape → Bool
is_last text m = is_text text m.last

abbrev pub with_last : List ℕ → MarksShape → MarksShape
with_last text m = record m { last = Some text }
