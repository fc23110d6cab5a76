-- The views that frames show, given what they hold.
use Rattle.std.specs.Prelude.{ℕ, List, Option, Some}
use Rattle.liquid_runtime.specs.declared.leniency.Leniency.{Leniency}
use Rattle.liquid_runtime.specs.meaning.Maps.{Names}
use Rattle.liquid_runtime.specs.meaning.View.{View}
use Rattle.liquid_runtime.specs.meaning.Frames.{core_view, leniently, begin_global, begin_sandboxed}
use Rattle.liquid_runtime.specs.meaning.Calls.{with_registers}
use Rattle.liquid_runtime.specs.declared.registers.Registers.{Registers}

-- a core with these registers
abbrev pub core_with : {Reg : Type 0} → Registers Reg → ℕ → Leniency → View Reg
core_with r depth lenient = leniently lenient (with_registers r (core_view r.value depth))

-- an index frame in which these variables were set
abbrev pub indexed_view : {Reg : Type 0} → Names → View Reg → View Reg
indexed_view variables v = record v { index = Some variables }

-- a global frame in which these names were assigned
abbrev pub assigned_view : {Reg : Type 0} → Names → View Reg → View Reg
assigned_view assigned v = record (begin_global v) { globals = Some assigned }

-- a sandboxed frame with these registers
abbrev pub sandboxed_with : {Reg : Type 0} → Registers Reg → Names → Option (List ℕ) → View Reg → View Reg
sandboxed_with r names name v = with_registers r (begin_sandboxed r.value names name v)
