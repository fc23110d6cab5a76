-- Frames: what each makes of the view below it, and what it restores when it ends.
use Rattle.std.specs.Prelude.{ℕ, List, Bool, true, false, Option, None, Some}
use Rattle.std.specs.Option.{option_or}
use Rattle.std.specs.FinMap.{empty}
use Rattle.liquid_runtime.specs.meaning.Maps.{Names, over}
use Rattle.liquid_runtime.specs.declared.leniency.Leniency.{Leniency}
use Rattle.liquid_runtime.specs.declared.leniency.Leniency.TheVariants.{Strict}
use Rattle.liquid_runtime.specs.declared.registers.Interrupt.{Interrupt}
use Rattle.liquid_runtime.specs.meaning.View.{View, Floor, unsealed, sealed}
use Rattle.liquid_runtime.specs.meaning.NamesSeen.{upper_names}

-- no frame, a stack frame, a sandboxed frame or an isolated frame of data, each with a name if one is set, or a global
-- frame
pub data FrameShape : Type 0 where
  no_frame : FrameShape
  stack_frame : Names → Option (List ℕ) → FrameShape
  sandboxed_frame : Names → Option (List ℕ) → FrameShape
  isolated_frame : Names → Option (List ℕ) → FrameShape
  global_frame : FrameShape

-- a core: no names, nowhere to set one, nothing sealed, and a path without a value is refused
abbrev pub core_view : {Reg : Type 0} → Reg → ℕ → View Reg
core_view register depth = record {
  locals = empty;
  globals = None;
  base = empty;
  index = None;
  shown = true;
  floor = unsealed;
  name = None;
  interrupt = None;
  register = register;
  depth = depth;
  lenient = Strict;
}

-- the view that is as lenient as that
abbrev pub leniently : {Reg : Type 0} → Leniency → View Reg → View Reg
leniently lenient v = record v { lenient = lenient }

-- an index frame: no index variables yet
abbrev pub begin_index : {Reg : Type 0} → View Reg → View Reg
begin_index v = record v { index = Some empty }

-- a stack frame: its data hides the names below
abbrev pub begin_stack : {Reg : Type 0} → Names → Option (List ℕ) → View Reg → View Reg
begin_stack names name v = record v { locals = over names v.locals; name = option_or name v.name }

-- a global frame: nothing is assigned in it yet, and the names above the floor are below it
abbrev pub begin_global : {Reg : Type 0} → View Reg → View Reg
begin_global v = record v { locals = empty; globals = Some empty; base = upper_names v; shown = true }

-- a sandboxed frame: only its data is seen, and interrupt and register are fresh
abbrev pub begin_sandboxed : {Reg : Type 0} → Reg → Names → Option (List ℕ) → View Reg → View Reg
begin_sandboxed fresh names name v = record v {
  locals = empty;
  base = empty;
  shown = false;
  floor = sealed names;
  name = option_or name v.name;
  interrupt = None;
  register = fresh;
}

-- an isolated frame: a global frame inside a sandboxed one, so what is assigned in it is seen there
abbrev pub begin_isolated : {Reg : Type 0} → Reg → Names → Option (List ℕ) → View Reg → View Reg
begin_isolated fresh names name v = begin_global (begin_sandboxed fresh names name v)

-- the view that a frame begins with; `fresh` is the register's default
abbrev pub beginning : {Reg : Type 0} → Reg → FrameShape → View Reg → View Reg
beginning fresh no_frame v = v
beginning fresh (stack_frame names name) v = begin_stack names name v
beginning fresh (sandboxed_frame names name) v = begin_sandboxed fresh names name v
beginning fresh (isolated_frame names name) v = begin_isolated fresh names name v
beginning fresh global_frame v = begin_global v

-- a built runtime: a core, an index frame, a stack frame of the caller's globals, and a global frame
abbrev pub built_view : {Reg : Type 0} → Reg → ℕ → Names → View Reg
built_view fresh depth globals = begin_global (begin_stack globals None (begin_index (core_view fresh depth)))

-- what a frame restores when it ends; the first one marks where scopes begin on their base, and ends nothing
pub data Restore (Reg : Type 0) : Type 0 where
  scope_base : Restore Reg
  restore_nothing : Restore Reg
  restore_stack : Names → Option (List ℕ) → Restore Reg
  restore_global : Names → Option Names → Names → Bool → Restore Reg
  restore_sandboxed : Names → Names → Bool → Floor → Option (List ℕ) → Option Interrupt → Reg → Restore Reg
  restore_isolated : Names → Option Names → Names → Bool → Floor → Option (List ℕ) → Option Interrupt → Reg → Restore Reg

-- what the frame will restore, when it ends, of the view that it begins over
abbrev pub restored_by : {Reg : Type 0} → FrameShape → View Reg → Restore Reg
restored_by no_frame v = restore_nothing
restored_by (stack_frame names name) v = restore_stack v.locals v.name
restored_by (sandboxed_frame names name) v = restore_sandboxed v.locals v.base v.shown v.floor v.name v.interrupt v.register
restored_by (isolated_frame names name) v = restore_isolated v.locals v.globals v.base v.shown v.floor v.name v.interrupt v.register
restored_by global_frame v = restore_global v.locals v.globals v.base v.shown

-- the view that is left when a frame ends: what is not restored stays as it is
abbrev pub ending : {Reg : Type 0} → Restore Reg → View Reg → View Reg
ending scope_base v = v
ending restore_nothing v = v
ending (restore_stack locals name) v = record v { locals = locals; name = name }
ending (restore_global locals globals base shown) v = record v { locals = locals; globals = globals; base = base; shown = shown }
ending (restore_sandboxed locals base shown floor name interrupt register) v = record v {
  locals = locals;
  base = base;
  shown = shown;
  floor = floor;
  name = name;
  interrupt = interrupt;
  register = register;
}
ending (restore_isolated locals globals base shown floor name interrupt register) v = record v {
  locals = locals;
  globals = globals;
  base = base;
  shown = shown;
  floor = floor;
  name = name;
  interrupt = interrupt;
  register = register;
}
