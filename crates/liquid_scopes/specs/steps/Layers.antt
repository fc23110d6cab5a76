-- Frames over a base as plain data, the oldest first, and what they show: both forms of scopes are built on these.
use Rattle.std.specs.Prelude.{◌≡◌, ◌++◌, ◌&&◌, ℕ, List, [], ◌∷◌, length, Option, Some, None, Bool, true, false, ⊤, is_none}
use Rattle.std.specs.Prelude.{String}
use Rattle.std.specs.BTreeSet.{BTreeSet}
use Rattle.std.specs.declared.alloc.Global.{Global}
use Rattle.liquid_runtime.specs.meaning.Roots.{NamesOf, NamesOver}
use Rattle.std.specs.Option.{option_or}
use Rattle.std.specs.FinMap.{get, empty}
use Rattle.liquid_value.specs.meaning.Tree.{Tree}
use Rattle.liquid_runtime.specs.meaning.Maps.{Names, over}
use Rattle.liquid_runtime.specs.meaning.View.{View}
use Rattle.liquid_runtime.specs.meaning.Frames.{
  Restore,
  restore_nothing,
  restore_sandboxed,
  restore_isolated,
  restored_by,
  stack_frame,
  global_frame,
  begin_stack,
  begin_sandboxed,
}
use Rattle.liquid_runtime.specs.steps.FrameViews.{assigned_view}
use Rattle.liquid_runtime.specs.meaning.Calls.{registers_of, with_registers}
use Rattle.liquid_runtime.specs.declared.registers.Registers.{Registers}

-- a frame with what it holds; a sandboxed one and an isolated one hold the registers that are given back when they end
pub data Layer (V : Type 0) : Type 0 where
  none_layer : Layer V
  stack_layer : Names → Option (List ℕ) → Layer V
  global_layer : Names → Layer V
  sandboxed_layer : Names → Option (List ℕ) → Registers V → Layer V
  -- its data, what is assigned in it, its name
  isolated_layer : Names → Names → Option (List ℕ) → Registers V → Layer V

module _ {V Reg : Type 0} where
  -- the view over the one below; the registers are always the base's
  abbrev pub layer_view : Layer V → View Reg → View Reg
  layer_view none_layer v = v
  layer_view (stack_layer d n) v = begin_stack d n v
  layer_view (global_layer g) v = assigned_view g v
  layer_view (sandboxed_layer d n saved) v = with_registers (registers_of v) (begin_sandboxed v.register d n v)
  layer_view (isolated_layer d g n saved) v = assigned_view g (with_registers (registers_of v) (begin_sandboxed v.register d n v))

  -- what its ending restores, where the register is seen by its shape
  abbrev pub layer_restores : (V → Reg) → Layer V → View Reg → Restore Reg
  layer_restores shape none_layer v = restore_nothing
  layer_restores shape (stack_layer d n) v = restored_by (stack_frame d n) v
  layer_restores shape (global_layer g) v = restored_by global_frame v
  layer_restores shape (sandboxed_layer d n saved) v =
      restore_sandboxed v.locals v.base v.shown v.floor v.name saved.interrupt.current (shape saved.value)
  layer_restores shape (isolated_layer d g n saved) v =
      restore_isolated v.locals v.globals v.base v.shown v.floor v.name saved.interrupt.current (shape saved.value)

  abbrev pub shown_over : View Reg → List (Layer V) → View Reg
  shown_over v [] = v
  shown_over v (l ∷ ls) = shown_over (layer_view l v) ls

  abbrev pub restoring : (V → Reg) → View Reg → List (Layer V) → List (Restore Reg) → List (Restore Reg)
  restoring shape v [] rs = rs
  restoring shape v (l ∷ ls) rs = restoring shape (layer_view l v) ls (layer_restores shape l v ∷ rs)

module _ {V : Type 0} where
  -- what a layer finds over what is found below it
  abbrev pub layer_found : Layer V → List ℕ → Option Tree → Option Tree
  layer_found none_layer q o = o
  layer_found (stack_layer d n) q o = option_or (get d q) o
  layer_found (global_layer g) q o = option_or (get g q) o
  layer_found (sandboxed_layer d n saved) q o = get d q
  layer_found (isolated_layer d g n saved) q o = option_or (get g q) (get d q)

  abbrev pub layer_seals : Layer V → List ℕ → Bool → Bool
  layer_seals none_layer q b = b
  layer_seals (stack_layer d n) q b = is_none (get d q) && b
  layer_seals (global_layer g) q b = is_none (get g q) && b
  layer_seals (sandboxed_layer d n saved) q b = true
  layer_seals (isolated_layer d g n saved) q b = is_none (get g q)

  -- the name that a layer gives over the one below it
  abbrev pub layer_name : Layer V → Option (List ℕ) → Option (List ℕ)
  layer_name none_layer o = o
  layer_name (stack_layer d n) o = option_or n o
  layer_name (global_layer g) o = o
  layer_name (sandboxed_layer d n saved) o = option_or n o
  layer_name (isolated_layer d g n saved) o = option_or n o

  -- the names that are seen under a layer, from those that are seen below it
  abbrev pub LayerNames : Layer V → BTreeSet (String Global) → BTreeSet (String Global) → Type 0
  LayerNames none_layer below set = set ≡ below
  LayerNames (stack_layer d n) below set = NamesOver d below set
  LayerNames (global_layer g) below set = NamesOver g below set
  LayerNames (sandboxed_layer d n saved) below set = NamesOf d set
  LayerNames (isolated_layer d g n saved) below set = NamesOf (over g d) set

  abbrev pub is_global : Layer V → Bool
  is_global none_layer = false
  is_global (stack_layer d n) = false
  is_global (global_layer g) = true
  is_global (sandboxed_layer d n saved) = false
  is_global (isolated_layer d g n saved) = true

  -- what is assigned in a layer
  abbrev pub assigned : Layer V → Names
  assigned none_layer = empty
  assigned (stack_layer d n) = empty
  assigned (global_layer g) = g
  assigned (sandboxed_layer d n saved) = empty
  assigned (isolated_layer d g n saved) = g

  -- the layer with this assigned in it, if it is a global one
  abbrev pub assigning : Names → Layer V → Layer V
  assigning m none_layer = none_layer
  assigning m (stack_layer d n) = stack_layer d n
  assigning m (global_layer g) = global_layer m
  assigning m (sandboxed_layer d n saved) = sandboxed_layer d n saved
  assigning m (isolated_layer d g n saved) = isolated_layer d m n saved

  -- no global frame among them
  abbrev pub Plain : List (Layer V) → Type 0
  Plain [] = ⊤
  Plain (l ∷ ls) = (is_global l ≡ false) × Plain ls

  pub record GlobalAt (ls : List (Layer V)) (i : ℕ) : Type 0 where
    pub before : List (Layer V)
    pub layer : Layer V
    pub after : List (Layer V)
    pub is : ls ≡ before ++ layer ∷ after
    pub global : is_global layer ≡ true
    pub place : i ≡ length before
    pub plain : Plain after

  -- the place of the last global frame, if there is one
  abbrev pub LastGlobal : List (Layer V) → Option ℕ → Type 0
  LastGlobal ls None = Plain ls
  LastGlobal ls (Some i) = GlobalAt ls i
