-- What a map without places gives.
use Rattle.std.proofs.Common.{◌≡◌, ℕ, List, None}
use Rattle.std.specs.Ordering.{nat_cmp}
use Rattle.std.specs.Cmp.Lexicographic.{slice_cmp}
use Rattle.std.specs.FinMap.{empty, get, get-empty}
use Rattle.liquid_runtime.specs.meaning.Maps.{NameMap}

abbrev no_places : NameMap ℕ
no_places = empty

pub no_place : (key : List ℕ) → get no_places key ≡ None
no_place key = get-empty (slice_cmp nat_cmp) key
