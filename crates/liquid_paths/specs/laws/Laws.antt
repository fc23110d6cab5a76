-- The laws of paths.
use Rattle.std.specs.Prelude.{◌≡◌}
use Rattle.std.specs.Result.{result_ok}
use Rattle.liquid_value.specs.meaning.Tree.{Tree}
use Rattle.liquid_paths.specs.meaning.Walk.{Path, walk, find}

-- the call that can fail gives a value exactly if the other one does, and then the same one
abbrev pub FindAgrees : Type 0
FindAgrees = (t : Tree) (path : Path) → result_ok (find t path) ≡ walk t path
