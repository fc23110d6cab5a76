-- The list and the map that a value holds, its own or shared.
use Rattle.std.specs.Prelude.{String}
use Rattle.std.specs.BTreeMap.{BTreeMap}
use Rattle.std.specs.Global.{Vec}
use Rattle.std.specs.declared.alloc.Global.{Global}
use Rattle.liquid_value.specs.declared.shared_array.SharedArray.{SharedArray, out-SharedArray}
use Rattle.liquid_value.specs.declared.shared_array.SharedArray.TheOpen.{SharedArray-F, SharedObject-F}
use Rattle.liquid_value.specs.declared.shared_object.SharedObject.{SharedObject, out-SharedObject}
use Rattle.liquid_value.specs.declared.value.Value.{Value}

abbrev list_in : SharedArray-F SharedArray SharedObject Value → Vec Value
list_in (SharedArray-F.SharedArray::Own v) = v
list_in (SharedArray-F.SharedArray::Shared r) = r.value

-- the list of an array
abbrev pub array_list : SharedArray → Vec Value
array_list a = list_in (out-SharedArray a)

abbrev map_in : SharedObject-F SharedArray SharedObject Value → BTreeMap (String Global) Value
map_in (SharedObject-F.SharedObject::Own m) = m
map_in (SharedObject-F.SharedObject::Shared r) = r.value

-- the map of an object
abbrev pub object_map : SharedObject → BTreeMap (String Global) Value
object_map o = map_in (out-SharedObject o)
