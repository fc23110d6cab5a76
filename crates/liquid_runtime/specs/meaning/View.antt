-- What a template sees and may change: maps of names and flags, without a list of frames.
use Rattle.std.specs.Prelude.{ℕ, List, Bool, Option}
use Rattle.liquid_runtime.specs.meaning.Maps.{Names}
use Rattle.liquid_runtime.specs.declared.leniency.Leniency.{Leniency}
use Rattle.liquid_runtime.specs.declared.registers.Interrupt.{Interrupt}

-- what is below all frames: the index variables, or the names of a sandboxed frame, which seal off everything outside
pub data Floor : Type 0 where
  unsealed : Floor
  sealed : Names → Floor

-- the names, nearest layer first, and what else a template meets; `Reg` is the type of the caller's register
pub record View (Reg : Type 0) : Type 0 where
  -- the data of the open stack frames
  pub locals : Names
  -- what is assigned in the nearest global frame, if there is one
  pub globals : Option Names
  -- the names below that frame
  pub base : Names
  -- the index variables, if there is a frame for them
  pub index : Option Names
  -- whether what is assigned is seen
  pub shown : Bool
  -- where the names end
  pub floor : Floor
  -- the name of the template, if one is set
  pub name : Option (List ℕ)
  -- the interrupt that a node has set
  pub interrupt : Option Interrupt
  -- the caller's register
  pub register : Reg
  -- the number of partials that may be nested
  pub depth : ℕ
  -- what a path without a value, and an index that is not a scalar, lead to
  pub lenient : Leniency
