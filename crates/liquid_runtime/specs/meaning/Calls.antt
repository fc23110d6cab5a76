-- Definitions for the calls of a runtime.
use Rattle.std.specs.Prelude.{ℕ, List, Option, None, Some, option_map, string_bytes, unwrap_or}
use Rattle.std.specs.Borrow.{MutBor, Fml, RattleType, Lends}
use Rattle.std.specs.FinMap.{empty, get}
use Rattle.liquid_value.specs.meaning.Tree.{Tree}
use Rattle.liquid_runtime.specs.meaning.Maps.{Names, names_of}
use Rattle.liquid_runtime.specs.meaning.LoopNames.{loop_names}
use Rattle.liquid_runtime.specs.meaning.View.{View}
use Rattle.liquid_runtime.specs.meaning.Frames.{FrameShape, no_frame, stack_frame, sandboxed_frame, isolated_frame, global_frame}
use Rattle.liquid_runtime.specs.declared.scopes.Frame.{Frame}
use Rattle.liquid_runtime.specs.declared.scopes.Frame.TheVariants as frame
use Rattle.liquid_runtime.specs.declared.registers.Interrupt.{Interrupt}
use Rattle.liquid_runtime.specs.declared.registers.InterruptRegister.{InterruptRegister}
use Rattle.liquid_runtime.specs.declared.registers.Registers.{Registers}
use Rattle.liquid_runtime.specs.contracts.registers.Registers as registers

-- the shape of a frame
abbrev pub frame_of : Frame → FrameShape
frame_of frame.None = no_frame
frame_of (frame.Stack d n) = stack_frame (names_of d) (option_map (λ s. string_bytes s) n)
frame_of (frame.Loop l) = stack_frame (loop_names l.value) None
frame_of (frame.Sandboxed d n) = sandboxed_frame (names_of d) (option_map (λ s. string_bytes s) n)
frame_of (frame.Isolated d n) = isolated_frame (names_of d) (option_map (λ s. string_bytes s) n)
frame_of frame.Global = global_frame

-- the interrupt that is set
abbrev pub interrupt_of : InterruptRegister → Option Interrupt
interrupt_of register = register.current

-- no interrupt, and the register's first value
abbrev pub fresh_registers : {Reg : Type 0} → Reg → Registers Reg
fresh_registers fresh = record { interrupt = record { current = None }; value = fresh }

-- registers, with the register as it is seen
abbrev pub shaped : {V Reg : Type 0} → (V → Reg) → Registers V → Registers Reg
shaped shape r = record { interrupt = r.interrupt; value = shape r.value }

-- the registers of a view, and the view with others
abbrev pub registers_of : {Reg : Type 0} → View Reg → Registers Reg
registers_of v = record { interrupt = record { current = v.interrupt }; value = v.register }

abbrev pub with_registers : {Reg : Type 0} → Registers Reg → View Reg → View Reg
with_registers r v = record v { interrupt = r.interrupt.current; register = r.value }

-- the view with this name
abbrev pub named : {Reg : Type 0} → List ℕ → View Reg → View Reg
named name v = record v { name = Some name }

-- the value of a name in a map, if there is a map
abbrev pub value_in : Option Names → List ℕ → Option Tree
value_in names name = get (unwrap_or names empty) name

-- s becomes F of the last value of the registers that r lent
abbrev pub LendsRegisters : (R V : RattleType) → MutBor R.Denot → MutBor (Registers V.Denot) → (Registers V.Denot → R.Denot) → Fml
LendsRegisters R V s r F = Lends R (registers.the_row V) s r F
