-- What a value's outline says about the value.
use Rattle.std.proofs.Common.{◌≡◌, [], refl, is_some, sym, ap}
use Rattle.liquid_scalar.specs.meaning.Scalar.{Scal, render_scalar}
use Rattle.liquid_value.specs.meaning.Kind.{type_name, query_state}
use Rattle.liquid_value.specs.meaning.Parts.{as_scalar, as_array, as_object, as_state, is_nil}
use Rattle.liquid_value.specs.meaning.Render.{render}
use Rattle.liquid_value.specs.meaning.Tree.{Tree, nil, state, scalar, array, object}
use Rattle.liquid_value.specs.declared.state.State.{State}
use Rattle.liquid_views.specs.meaning.Outline.{
  nil_outline,
  state_outline,
  scalar_outline,
  outline,
  outline_name,
  outline_state,
  outline_scalar,
  outline_own_state,
  is_array_outline,
  is_object_outline,
  is_nil_outline,
}

pub name_of_outline : (t : Tree) → outline_name (outline t) ≡ type_name t
name_of_outline nil = refl
name_of_outline (state s) = refl
name_of_outline (scalar x) = refl
name_of_outline (array ts) = refl
name_of_outline (object ms) = refl

pub state_of_outline : (t : Tree) (state : State) → outline_state (outline t) state ≡ query_state t state
state_of_outline nil own = refl
state_of_outline (state s) own = refl
state_of_outline (scalar x) own = refl
state_of_outline (array ts) own = refl
state_of_outline (object ms) own = refl

pub scalar_of_outline : (t : Tree) → outline_scalar (outline t) ≡ as_scalar t
scalar_of_outline nil = refl
scalar_of_outline (state s) = refl
scalar_of_outline (scalar x) = refl
scalar_of_outline (array ts) = refl
scalar_of_outline (object ms) = refl

pub own_state_of_outline : (t : Tree) → outline_own_state (outline t) ≡ as_state t
own_state_of_outline nil = refl
own_state_of_outline (state s) = refl
own_state_of_outline (scalar x) = refl
own_state_of_outline (array ts) = refl
own_state_of_outline (object ms) = refl

pub array_of_outline : (t : Tree) → is_array_outline (outline t) ≡ is_some (as_array t)
array_of_outline nil = refl
array_of_outline (state s) = refl
array_of_outline (scalar x) = refl
array_of_outline (array ts) = refl
array_of_outline (object ms) = refl

pub object_of_outline : (t : Tree) → is_object_outline (outline t) ≡ is_some (as_object t)
object_of_outline nil = refl
object_of_outline (state s) = refl
object_of_outline (scalar x) = refl
object_of_outline (array ts) = refl
object_of_outline (object ms) = refl

pub nil_of_outline : (t : Tree) → is_nil_outline (outline t) ≡ is_nil t
nil_of_outline nil = refl
nil_of_outline (state s) = refl
nil_of_outline (scalar x) = refl
nil_of_outline (array ts) = refl
nil_of_outline (object ms) = refl

scalar_in : {x y : Scal} → scalar_outline x ≡ scalar_outline y → x ≡ y
scalar_in e = cc

pub render_of_scalar : (t : Tree) (x : Scal) → scalar_outline x ≡ outline t → render t ≡ render_scalar x
render_of_scalar nil x e = cc
render_of_scalar (state s) x e = cc
render_of_scalar (scalar y) x e = ap render_scalar (sym (scalar_in e))
render_of_scalar (array ts) x e = cc
render_of_scalar (object ms) x e = cc

pub render_of_state : (t : Tree) (s : State) → state_outline s ≡ outline t → render t ≡ []
render_of_state nil s e = cc
render_of_state (state u) s e = refl
render_of_state (scalar x) s e = cc
render_of_state (array ts) s e = cc
render_of_state (object ms) s e = cc

pub render_of_nil : (t : Tree) → nil_outline ≡ outline t → render t ≡ []
render_of_nil nil e = refl
render_of_nil (state s) e = cc
render_of_nil (scalar x) e = cc
render_of_nil (array ts) e = cc
render_of_nil (object ms) e = cc
