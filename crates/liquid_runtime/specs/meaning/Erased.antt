-- What a filter sees of a view.
use Rattle.std.specs.Prelude.{cond, Option, option_map}
use Rattle.std.specs.FinMap.{empty}
use Rattle.liquid_runtime.specs.meaning.Maps.{Names}
use Rattle.liquid_runtime.specs.meaning.View.{View}

-- a view without a register
abbrev pub Erased : Type 0
Erased = View (Unit {0})

-- an empty map if there is a map
abbrev pub without_names : Option Names → Option Names
without_names names = option_map (λ _. empty) names

-- all of the view except its register, and except what is assigned if it is not seen
abbrev pub erase : {Reg : Type 0} → View Reg → Erased
erase v = record {
  locals = v.locals;
  globals = cond v.shown v.globals (without_names v.globals);
  base = v.base;
  index = v.index;
  shown = v.shown;
  floor = v.floor;
  name = v.name;
  interrupt = v.interrupt;
  register = tt;
  depth = v.depth;
  lenient = v.lenient;
}
