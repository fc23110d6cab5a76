-- The tree of an array and of an object.
use Rattle.std.proofs.Common.{◌≡◌, BTreeMap, String, Global, ap, ◌∙◌, rules}
use Rattle.std.specs.Global.{Vec}
use Rattle.liquid_value.proofs.SharedLemmas.{items-Own, members-Own}
use Rattle.liquid_value.specs.declared.shared_array.SharedArray as shared_array
use Rattle.liquid_value.specs.declared.shared_object.SharedObject as shared_object
use Rattle.liquid_value.specs.declared.value.Value.{Value, Array, Object, the_lemmas}
use Rattle.liquid_value.specs.meaning.Tree.{array, object}
use Rattle.liquid_value.specs.meaning.View.{view, array_view, items_view, object_view, members_view}

pub view-Array : (a : shared_array.SharedArray) → view (Array a) ≡ array (array_view a)
view-Array a = search (rules, the_lemmas)

pub view-Object : (o : shared_object.SharedObject) → view (Object o) ≡ object (object_view o)
view-Object o = search (rules, the_lemmas)

pub view-own_array : (v : Vec Value) → view (Array (shared_array.Own v)) ≡ array (items_view v.items)
view-own_array v = view-Array (shared_array.Own v) ∙ ap array (items-Own v)

pub view-own_object : (m : BTreeMap (String Global) Value) → view (Object (shared_object.Own m)) ≡ object (members_view m.entries)
view-own_object m = view-Object (shared_object.Own m) ∙ ap object (members-Own m)
