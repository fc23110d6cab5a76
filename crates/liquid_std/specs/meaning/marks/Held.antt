-- Registers that hold marks.
use Rattle.std.specs.Prelude.{◌≡◌}
use Rattle.liquid_runtime.specs.meaning.View.{View}
use Rattle.liquid_std.specs.declared.marks.marks.MarksShape.{MarksShape}

-- the marks in a register, and the register with others in their place
pub record MarksIn (Reg : Type 0) : Type 0 where
  pub marks : Reg → MarksShape
  pub with_marks : MarksShape → Reg → Reg

-- a register that is marks
abbrev pub marks_alone : MarksIn MarksShape
marks_alone = record { marks = λ m. m; with_marks = λ m old. m }

-- what is put into a register is what it holds; the rest of the register stays, so putting what it holds already changes
-- nothing, and marks that are put in the place of others leave what they would leave without those
pub record KeepsMarks {Reg : Type 0} (held : MarksIn Reg) : Type 0 where
  pub put : (m : MarksShape) (r : Reg) → held.marks (held.with_marks m r) ≡ m
  pub same : (r : Reg) → held.with_marks (held.marks r) r ≡ r
  pub again : (m n : MarksShape) (r : Reg) → held.with_marks n (held.with_marks m r) ≡ held.with_marks n r

-- the marks that a view holds, and the view with others
abbrev pub marks_in : {Reg : Type 0} → MarksIn Reg → View Reg → MarksShape
marks_in held v = held.marks v.register

abbrev pub marked : {Reg : Type 0} → MarksIn Reg → MarksShape → View Reg → View Reg
marked held m v = record v { register = held.with_marks m v.register }
