-- Which frames give a name a value: what an index of names says, and what the layers mean.
use Rattle.std.specs.Prelude.{
  ◌≡◌,
  ℕ,
  zero,
  suc,
  List,
  [],
  ◌∷◌,
  Option,
  Some,
  None,
  Bool,
  true,
  false,
  ◌&&◌,
  ◌||◌,
  not,
  cond,
  is_some,
  is_none,
  nat_eq,
  nat_lt,
  String,
  option_map,
}
use Rattle.std.specs.Option.{option_or}
use Rattle.std.specs.BTreeMap.{BTreeMap, get_by_text}
use Rattle.std.specs.FinMap.{get}
use Rattle.std.specs.declared.alloc.Global.{Global}
use Rattle.liquid_value.specs.meaning.Tree.{Tree}
use Rattle.liquid_scopes.specs.declared.frames.Frames.{Frames}
use Rattle.liquid_scopes.specs.steps.NamePlaces.{is_place, is_at, is_under}
use Rattle.liquid_scopes.specs.steps.Layers.{Layer, none_layer, stack_layer, global_layer, sandboxed_layer, isolated_layer, layer_found}

-- the frames of each name
abbrev pub Places : Type 0
Places = BTreeMap (String Global) Frames

abbrev pub is_among : Option Frames → ℕ → Bool
is_among None j = false
is_among (Some frames) j = is_place frames.last frames.earlier j

-- whether the frame at place j is among the name's
abbrev pub stands : Places → List ℕ → ℕ → Bool
stands m q j = is_among (get_by_text m q) j

-- the same names have the same frames
abbrev pub SamePlaces : Places → Places → Type 0
SamePlaces old new = (q : List ℕ) (j : ℕ) → stands new q j ≡ stands old q j

-- the names that pass have this frame too
abbrev pub Noted : (List ℕ → Bool) → ℕ → Places → Places → Type 0
Noted has frame old new = (q : List ℕ) (j : ℕ) → stands new q j ≡ (stands old q j || (has q && nat_eq j frame))

-- some of them do
abbrev pub PartlyNoted : (List ℕ → Bool) → ℕ → Places → Places → Type 0
PartlyNoted has frame old new =
    (q : List ℕ) (j : ℕ) → (stands new q j || (has q && nat_eq j frame)) ≡ (stands old q j || (has q && nat_eq j frame))

-- the names that pass no longer have this frame
abbrev pub Forgotten : (List ℕ → Bool) → ℕ → Places → Places → Type 0
Forgotten has frame old new = (q : List ℕ) (j : ℕ) → stands new q j ≡ (stands old q j && not (has q && nat_eq j frame))

-- what the last place, the last sandboxed frame and the base say
abbrev pub two_looks : Option ℕ → Option ℕ → Option Tree → Option Tree → Option Tree
two_looks None None value below = below
two_looks None (Some s) value below = None
two_looks (Some i) None value below = value
two_looks (Some i) (Some s) value below = cond (nat_lt i s) None value

-- whether a name is the own name of a sandboxed frame, by its last place, the last sandboxed frame, what that frame
-- seals, and the base
abbrev pub sealed_by : Option ℕ → Option ℕ → (ℕ → Bool) → Bool → Bool
sealed_by None None seals below = below
sealed_by None (Some s) seals below = seals s
sealed_by (Some i) None seals below = false
sealed_by (Some i) (Some s) seals below = not (nat_lt s i) && seals s

-- the place of the unlisted frame, if neither the name's last listed place nor the last sandboxed frame is over it
abbrev pub seen_over : Option ℕ → Option ℕ → Option ℕ → Option ℕ
seen_over listed seal None = None
seen_over listed seal (Some i) = cond (is_under i seal || is_under i listed) None (Some i)

module _ {Reg : Type 0} where
  -- a layer's own value of a name
  abbrev pub own : Layer Reg → List ℕ → Option Tree
  own none_layer q = None
  own (stack_layer d n) q = get d q
  own (global_layer g) q = get g q
  own (sandboxed_layer d n saved) q = get d q
  own (isolated_layer d g n saved) q = option_or (get g q) (get d q)

  abbrev pub own_at : ℕ → List (Layer Reg) → List ℕ → Option Tree
  own_at j [] q = None
  own_at zero (l ∷ ls) q = own l q
  own_at (suc j) (l ∷ ls) q = own_at j ls q

  abbrev pub has_at : List (Layer Reg) → List ℕ → ℕ → Bool
  has_at ls q j = is_some (own_at j ls q)

  -- the same, except for the unlisted frame
  abbrev pub listed_at : List (Layer Reg) → Option ℕ → List ℕ → ℕ → Bool
  listed_at ls unlisted q j = has_at ls q j && not (is_at unlisted j)

  abbrev pub own_at_top : Option ℕ → List (Layer Reg) → List ℕ → Option Tree
  own_at_top None ls q = None
  own_at_top (Some i) ls q = own_at i ls q

  abbrev pub is_sandboxed : Layer Reg → Bool
  is_sandboxed none_layer = false
  is_sandboxed (stack_layer d n) = false
  is_sandboxed (global_layer g) = false
  is_sandboxed (sandboxed_layer d n saved) = true
  is_sandboxed (isolated_layer d g n saved) = true

  -- whether a sandboxed layer seals a name that no layer over it gives: an isolated one doesn't if the name is assigned
  abbrev pub seals_own : Layer Reg → List ℕ → Bool
  seals_own none_layer q = true
  seals_own (stack_layer d n) q = true
  seals_own (global_layer g) q = true
  seals_own (sandboxed_layer d n saved) q = true
  seals_own (isolated_layer d g n saved) q = is_none (get g q)

  abbrev pub seals_at : List (Layer Reg) → List ℕ → ℕ → Bool
  seals_at [] q j = true
  seals_at (l ∷ ls) q zero = seals_own l q
  seals_at (l ∷ ls) q (suc j) = seals_at ls q j

  -- the place of the last layer that passes
  abbrev pub last_place : (Layer Reg → Bool) → List (Layer Reg) → Option ℕ
  last_place P [] = None
  last_place P (l ∷ ls) = option_or (option_map (λ i. suc i) (last_place P ls)) (cond (P l) (Some 0) None)

  -- the places of those that pass, counted from n
  abbrev pub places_where : (Layer Reg → Bool) → ℕ → List (Layer Reg) → List ℕ
  places_where P n [] = []
  places_where P n (l ∷ ls) = cond (P l) (n ∷ places_where P (suc n) ls) (places_where P (suc n) ls)

  -- the place of the last sandboxed frame
  abbrev pub last_seal : List (Layer Reg) → Option ℕ
  last_seal ls = last_place is_sandboxed ls

  -- what the layers find over what is found below them
  abbrev pub found_over : List (Layer Reg) → List ℕ → Option Tree → Option Tree
  found_over [] q below = below
  found_over (l ∷ ls) q below = found_over ls q (layer_found l q below)
