-- The path that a list of scalars means.
use Rattle.std.specs.Prelude.{ℕ, List, ◌++◌, codes, map}
use Rattle.std.specs.Cow.{cow_str_bytes}
use Rattle.liquid_scalar.specs.meaning.Scalar.{Scal, scal, render_scalar}
use Rattle.liquid_scalar.specs.declared.scalar.ScalarOf.{ScalarOf}
use Rattle.std.specs.declared.alloc.Global.{Global}
use Rattle.std.specs.declared.borrow.CowStr.{CowStr}
use Rattle.std.specs.Slice.Iter.{iter_rest}
use Rattle.liquid_paths.specs.declared.path.Path.{Path}
use Rattle.liquid_paths.specs.declared.path.PathIter.{PathIter}

-- the scalar of an index
abbrev pub index_of : ScalarOf (CowStr Global) → Scal
index_of = scal cow_str_bytes

-- the indexes of a list
abbrev pub indexes_of : List (ScalarOf (CowStr Global)) → List Scal
indexes_of = map index_of

-- the indexes of a path
abbrev pub path_of : Path → List Scal
path_of p = indexes_of p.indexes.items

-- `.` and an index
abbrev pub dotted : Scal → List ℕ
dotted index = codes "." ++ render_scalar index

-- the indexes that an iterator has left
abbrev pub path_iter_rest : PathIter → List (ScalarOf (CowStr Global))
path_iter_rest s = iter_rest s.indexes
