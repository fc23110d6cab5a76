-- A view from outside without other names.
use Rattle.std.specs.Prelude.{true, None}
use Rattle.std.specs.FinMap.{empty}
use Rattle.liquid_runtime.specs.meaning.View.{View, unsealed}
use Rattle.liquid_runtime.specs.meaning.Erased.{without_names}

-- only the depth, the index variables, the name and the leniency of the view are left, and whether there is a map of
-- globals; `fresh` is the register's default
abbrev pub emptied : {Reg : Type 0} → Reg → View Reg → View Reg
emptied fresh v = record v {
  locals = empty;
  globals = without_names v.globals;
  base = empty;
  shown = true;
  floor = unsealed;
  interrupt = None;
  register = fresh;
}
