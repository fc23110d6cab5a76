-- What a node may change in a view; the rest belongs to the frames.
use Rattle.std.specs.Prelude.{◌≡◌, Option}
use Rattle.liquid_runtime.specs.meaning.Maps.{Names}
use Rattle.liquid_runtime.specs.declared.registers.Interrupt.{Interrupt}
use Rattle.liquid_runtime.specs.meaning.View.{View}

-- the four things that are written
pub record Written (Reg : Type 0) : Type 0 where
  pub globals : Option Names
  pub index : Option Names
  pub interrupt : Option Interrupt
  pub register : Reg

-- those of a view
abbrev pub written_of : {Reg : Type 0} → View Reg → Written Reg
written_of v = record { globals = v.globals; index = v.index; interrupt = v.interrupt; register = v.register }

-- the view with these in their place
abbrev pub with_written : {Reg : Type 0} → Written Reg → View Reg → View Reg
with_written w v = record v { globals = w.globals; index = w.index; interrupt = w.interrupt; register = w.register }

-- the frames are the same: the later view differs at most in what is written
abbrev pub SameFrames : {Reg : Type 0} → View Reg → View Reg → Type 0
SameFrames before after = after ≡ with_written (written_of after) before
