-- What the calls of scopes do to the layers.
use Rattle.std.specs.Prelude.{◌≡◌, ℕ, ◌+◌, List, [], ◌∷◌, ◌++◌, map, length, Option, Some, None, true, false, take, get_or, ◌<◌}
use Rattle.std.proofs.Common.{zero, suc, refl, sym, ap, ◌∙◌, arith, append_assoc, subst}
use Rattle.std.proofs.Math.ListN.{set}
use Rattle.std.proofs.Math.Seq.{set-append_seam}
use Rattle.std.proofs.lemmas.List.{length-take, take_more}
use Rattle.std.specs.FinMap.{insert}
use Rattle.liquid_value.specs.meaning.Tree.{Tree}
use Rattle.liquid_runtime.specs.meaning.Maps.{Names}
use Rattle.liquid_runtime.specs.meaning.View.{View}
use Rattle.liquid_runtime.specs.meaning.NamesSeen.{lookup, comes_from_seal}
use Rattle.liquid_runtime.specs.meaning.Frames.{Restore, scope_base, restored_by, FrameShape, no_frame, stack_frame, sandboxed_frame}
use Rattle.liquid_runtime.specs.meaning.Frames.{isolated_frame, global_frame, beginning, ending}
use Rattle.liquid_runtime.specs.meaning.OpenFrames.{opened, EndsFirst}
use Rattle.liquid_runtime.specs.meaning.Sets.{put_global, put_index}
use Rattle.liquid_runtime.specs.meaning.Calls.{registers_of, with_registers}
use Rattle.liquid_runtime.specs.declared.registers.Registers.{Registers}
use Rattle.liquid_scopes.specs.steps.Layers.{Layer, none_layer, stack_layer, global_layer, sandboxed_layer, isolated_layer, layer_view}
use Rattle.liquid_scopes.specs.steps.Layers.{layer_restores, shown_over, restoring, layer_found, layer_seals, layer_name, is_global}
use Rattle.liquid_scopes.specs.steps.Layers.{assigned, assigning, Plain, GlobalAt, LastGlobal}
use Rattle.liquid_runtime.proofs.FrameLaws.{lookup_stack, lookup_global, lookup_sandboxed, lookup_isolated, seal_stack, seal_global}
use Rattle.liquid_runtime.proofs.FrameLaws.{seal_sandboxed, seal_isolated}

pub map_append : {X Y : Type 0} (f : X → Y) (xs ys : List X) → map f (xs ++ ys) ≡ map f xs ++ map f ys
map_append f [] ys = refl
map_append f (x ∷ xs) ys = ap (λ zs. f x ∷ zs) (map_append f xs ys)

pub map_length : {X Y : Type 0} (f : X → Y) (xs : List X) → length (map f xs) ≡ length xs
map_length f [] = refl
map_length f (x ∷ xs) = ap suc (map_length f xs)

map_set : {X Y : Type 0} (f : X → Y) (xs : List X) (i : ℕ) (x : X) → map f (set xs i x) ≡ set (map f xs) i (f x)
map_set f [] i x = refl
map_set f (y ∷ xs) zero x = refl
map_set f (y ∷ xs) (suc i) x = ap (λ zs. f y ∷ zs) (map_set f xs i x)

map_get : {X Y : Type 0} (f : X → Y) (xs : List X) (i : ℕ) (d : X) → f (get_or xs i d) ≡ get_or (map f xs) i (f d)
map_get f [] i d = refl
map_get f (y ∷ xs) zero d = refl
map_get f (y ∷ xs) (suc i) d = map_get f xs i d

below_seam : {X : Type 0} (before after : List X) (x : X) → length before < length (before ++ x ∷ after)
below_seam [] after x = omega arith
below_seam (y ∷ before) after x = let h = below_seam before after x in omega arith

-- registers that are the same already
pub same_registers : {Reg : Type 0} (v u : View Reg) → registers_of u ≡ registers_of v → with_registers (registers_of v) u ≡ u
same_registers v u e = ap (λ r. with_registers r u) (sym e)

module _ {V : Type 0} where
  plain_push : (ls : List (Layer V)) (l : Layer V) → Plain ls → is_global l ≡ false → Plain (ls ++ l ∷ [])
  plain_push [] l p e = (e, tt)
  plain_push (m ∷ ls) l p e = (p.0, plain_push ls l p.1 e)

  pub last_stays : (ls : List (Layer V)) (l : Layer V) (o : Option ℕ) → LastGlobal ls o → is_global l ≡ false → LastGlobal (ls ++ l ∷ []) o
  last_stays ls l None p e = plain_push ls l p e
  last_stays ls l (Some i) p e =
      record {
        before = p.before;
        layer = p.layer;
        after = p.after ++ l ∷ [];
        is = ap (λ xs. xs ++ l ∷ []) p.is
            ∙ append_assoc p.before (p.layer ∷ p.after) (l ∷ []);
        global = p.global;
        place = p.place;
        plain = plain_push p.after l p.plain e;
      }

  pub last_here : (ls : List (Layer V)) (l : Layer V) → is_global l ≡ true → LastGlobal (ls ++ l ∷ []) (Some (length ls))
  last_here ls l e = record { before = ls; layer = l; after = []; is = refl; global = e; place = refl; plain = tt }

  pub mapped_step : {X : Type 0} (f : X → Layer V) (xs : List X) (i : ℕ) (x : X) → i < length xs → x ≡ get_or xs i x
      → map f (take (i + 1) xs) ≡ map f (take i xs) ++ f x ∷ []
  mapped_step f xs i x h e = ap (map f) (take_more xs i x h ∙ ap (λ m. take i xs ++ m ∷ []) (sym e)) ∙ map_append f (take i xs) (x ∷ [])

  pub last_step : {X : Type 0} (f : X → Layer V) (xs : List X) (i : ℕ) (x : X) (o : Option ℕ) → i < length xs → x ≡ get_or xs i x
      → LastGlobal (map f (take i xs)) o → is_global (f x) ≡ false → LastGlobal (map f (take (i + 1) xs)) o
  last_step f xs i x o h e p n = subst (λ ys. LastGlobal ys o) (sym (mapped_step f xs i x h e)) (last_stays (map f (take i xs)) (f x) o p n)

  pub last_taken : {X : Type 0} (f : X → Layer V) (xs : List X) (i : ℕ) (x : X) → i < length xs → x ≡ get_or xs i x → is_global (f x) ≡ true
      → LastGlobal (map f (take (i + 1) xs)) (Some i)
  last_taken f xs i x h e n =
      let k : length (map f (take i xs)) ≡ i = map_length f (take i xs) ∙ omega (arith, length-take i xs) in
      subst (λ ys. LastGlobal ys (Some i)) (sym (mapped_step f xs i x h e))
      (subst (λ j. LastGlobal (map f (take i xs) ++ f x ∷ []) (Some j)) k (last_here (map f (take i xs)) (f x) n))

  set_here : {X : Type 0} (f : X → Layer V) (xs : List X) (i : ℕ) (x : X) (p : GlobalAt (map f xs) i) → map f (set xs i x) ≡ p.before ++ f x
      ∷ p.after
  set_here f xs i x p =
      map_set f xs i x ∙ ap (λ ys. set ys i (f x)) p.is ∙ ap (λ k. set (p.before ++ p.layer ∷ p.after) k (f x)) p.place
      ∙ set-append_seam p.before p.layer p.after (f x)

  -- in the layer that is set one more value is assigned
  pub set_put : {X : Type 0} (f : X → Layer V) (xs : List X) (i : ℕ) (x : X) (q : List ℕ) (t : Tree) (p : GlobalAt (map f xs) i)
      → f x ≡ assigning (insert (assigned p.layer) q t) p.layer
      → map f (set xs i x) ≡ p.before ++ assigning (insert (assigned p.layer) q t) p.layer ∷ p.after
  set_put f xs i x q t p a = set_here f xs i x p ∙ ap (λ m. p.before ++ m ∷ p.after) a

  -- the layer that is set holds what was there
  pub set_same : {X : Type 0} (f : X → Layer V) (xs : List X) (i : ℕ) (x : X) → (p : GlobalAt (map f xs) i) → f x ≡ p.layer
      → map f (set xs i x) ≡ map f xs
  set_same f xs i x p a = set_here f xs i x p ∙ ap (λ m. p.before ++ m ∷ p.after) a ∙ sym p.is

  seam : (before after : List (Layer V)) (l d : Layer V) → get_or (before ++ l ∷ after) (length before) d ≡ l
  seam [] after l d = refl
  seam (m ∷ before) after l d = seam before after l d

  pub read_here : {X : Type 0} (f : X → Layer V) (xs : List X) (i : ℕ) (d : X) → (p : GlobalAt (map f xs) i) → f (get_or xs i d) ≡ p.layer
  read_here f xs i d p =
      map_get f xs i d ∙ ap (λ ys. get_or ys i (f d)) p.is ∙ ap (λ k. get_or (p.before ++ p.layer ∷ p.after) k (f d)) p.place
      ∙ seam p.before p.after p.layer (f d)

module _ {Reg : Type 0} where
  ending_begun : (fresh : Reg) (f : FrameShape) (v : View Reg) → ending (restored_by f v) (beginning fresh f v) ≡ v
  ending_begun fresh no_frame v = refl
  ending_begun fresh (stack_frame d n) v = refl
  ending_begun fresh (sandboxed_frame d n) v = refl
  ending_begun fresh (isolated_frame d n) v = refl
  ending_begun fresh global_frame v = refl

module _ {V Reg : Type 0} where
  pub shown_push : (v : View Reg) (ls : List (Layer V)) (l : Layer V) → shown_over v (ls ++ l ∷ []) ≡ layer_view l (shown_over v ls)
  shown_push v [] l = refl
  shown_push v (m ∷ ls) l = shown_push (layer_view m v) ls l

  -- one more frame
  pub shown_more : {X : Type 0} (f : X → Layer V) (v : View Reg) (xs ys : List X) (x : X) → ys ≡ xs ++ x ∷ []
      → shown_over v (map f ys) ≡ layer_view (f x) (shown_over v (map f xs))
  shown_more f v xs ys x e =
      ap (λ zs. shown_over v (map f zs)) e ∙ ap (shown_over v) (map_append f xs (x ∷ [])) ∙ shown_push v (map f xs) (f x)

  index_link : (l : Layer V) (v : View Reg) (q : List ℕ) (x : Tree) → layer_view l (put_index v q x) ≡ put_index (layer_view l v) q x
  index_link none_layer v q x = refl
  index_link (stack_layer d n) v q x = refl
  index_link (global_layer g) v q x = refl
  index_link (sandboxed_layer d n s) v q x = refl
  index_link (isolated_layer d g n s) v q x = refl

  pub shown_put_index : (v : View Reg) (ls : List (Layer V)) (q : List ℕ) (x : Tree)
      → shown_over (put_index v q x) ls ≡ put_index (shown_over v ls) q x
  shown_put_index v [] q x = refl
  shown_put_index v (l ∷ ls) q x = ap (λ u. shown_over u ls) (index_link l v q x) ∙ shown_put_index (layer_view l v) ls q x

  registers_link : (l : Layer V) (v : View Reg) (w : Registers Reg) → layer_view l (with_registers w v) ≡ with_registers w (layer_view l v)
  registers_link none_layer v w = refl
  registers_link (stack_layer d n) v w = refl
  registers_link (global_layer g) v w = refl
  registers_link (sandboxed_layer d n s) v w = refl
  registers_link (isolated_layer d g n s) v w = refl

  pub shown_with_registers : (v : View Reg) (ls : List (Layer V)) (w : Registers Reg)
      → shown_over (with_registers w v) ls ≡ with_registers w (shown_over v ls)
  shown_with_registers v [] w = refl
  shown_with_registers v (l ∷ ls) w = ap (λ u. shown_over u ls) (registers_link l v w) ∙ shown_with_registers (layer_view l v) ls w

  registers_are : (l : Layer V) (v : View Reg) → registers_of (layer_view l v) ≡ registers_of v
  registers_are none_layer v = refl
  registers_are (stack_layer d n) v = refl
  registers_are (global_layer g) v = refl
  registers_are (sandboxed_layer d n s) v = refl
  registers_are (isolated_layer d g n s) v = refl

  pub shown_registers : (v : View Reg) (ls : List (Layer V)) → registers_of (shown_over v ls) ≡ registers_of v
  shown_registers v [] = refl
  shown_registers v (l ∷ ls) = shown_registers (layer_view l v) ls ∙ registers_are l v

  index_is : (l : Layer V) (v : View Reg) → (layer_view l v).index ≡ v.index
  index_is none_layer v = refl
  index_is (stack_layer d n) v = refl
  index_is (global_layer g) v = refl
  index_is (sandboxed_layer d n s) v = refl
  index_is (isolated_layer d g n s) v = refl

  pub shown_index : (v : View Reg) (ls : List (Layer V)) → (shown_over v ls).index ≡ v.index
  shown_index v [] = refl
  shown_index v (l ∷ ls) = shown_index (layer_view l v) ls ∙ index_is l v

  depth_is : (l : Layer V) (v : View Reg) → (layer_view l v).depth ≡ v.depth
  depth_is none_layer v = refl
  depth_is (stack_layer d n) v = refl
  depth_is (global_layer g) v = refl
  depth_is (sandboxed_layer d n s) v = refl
  depth_is (isolated_layer d g n s) v = refl

  lenient_is : (l : Layer V) (v : View Reg) → (layer_view l v).lenient ≡ v.lenient
  lenient_is none_layer v = refl
  lenient_is (stack_layer d n) v = refl
  lenient_is (global_layer g) v = refl
  lenient_is (sandboxed_layer d n s) v = refl
  lenient_is (isolated_layer d g n s) v = refl

  pub shown_lenient : (v : View Reg) (ls : List (Layer V)) → (shown_over v ls).lenient ≡ v.lenient
  shown_lenient v [] = refl
  shown_lenient v (l ∷ ls) = shown_lenient (layer_view l v) ls ∙ lenient_is l v

  pub shown_depth : (v : View Reg) (ls : List (Layer V)) → (shown_over v ls).depth ≡ v.depth
  shown_depth v [] = refl
  shown_depth v (l ∷ ls) = shown_depth (layer_view l v) ls ∙ depth_is l v

  pub lookup_link : (l : Layer V) (v : View Reg) (q : List ℕ) → lookup (layer_view l v) q ≡ layer_found l q (lookup v q)
  lookup_link none_layer v q = refl
  lookup_link (stack_layer d n) v q = lookup_stack d n v q
  lookup_link (global_layer g) v q = lookup_global g v q
  lookup_link (sandboxed_layer d n s) v q = lookup_sandboxed v.register d n v q
  lookup_link (isolated_layer d g n s) v q = lookup_isolated g v.register d n v q

  pub name_link : (l : Layer V) (v : View Reg) → (layer_view l v).name ≡ layer_name l v.name
  name_link none_layer v = refl
  name_link (stack_layer d n) v = refl
  name_link (global_layer g) v = refl
  name_link (sandboxed_layer d n s) v = refl
  name_link (isolated_layer d g n s) v = refl

  global_link : (l : Layer V) (v : View Reg) (q : List ℕ) (x : Tree) → is_global l ≡ false
      → layer_view l (put_global v q x) ≡ put_global (layer_view l v) q x
  global_link none_layer v q x e = refl
  global_link (stack_layer d n) v q x e = refl
  global_link (global_layer g) v q x e = absurd (cc)
  global_link (sandboxed_layer d n s) v q x e = refl
  global_link (isolated_layer d g n s) v q x e = absurd (cc)

  global_is : (l : Layer V) (v : View Reg) → is_global l ≡ false → (layer_view l v).globals ≡ v.globals
  global_is none_layer v e = refl
  global_is (stack_layer d n) v e = refl
  global_is (global_layer g) v e = absurd (cc)
  global_is (sandboxed_layer d n s) v e = refl
  global_is (isolated_layer d g n s) v e = absurd (cc)

  pub shown_globals_are : (v : View Reg) (ls : List (Layer V)) → Plain ls → (shown_over v ls).globals ≡ v.globals
  shown_globals_are v [] p = refl
  shown_globals_are v (l ∷ ls) p = shown_globals_are (layer_view l v) ls p.1 ∙ global_is l v p.0

  pub shown_put_global : (v : View Reg) (ls : List (Layer V)) (q : List ℕ) (x : Tree) → Plain ls
      → shown_over (put_global v q x) ls ≡ put_global (shown_over v ls) q x
  shown_put_global v [] q x p = refl
  shown_put_global v (l ∷ ls) q x p = ap (λ u. shown_over u ls) (global_link l v q x p.0) ∙ shown_put_global (layer_view l v) ls q x p.1

  holds : (l : Layer V) (v : View Reg) → is_global l ≡ true → (layer_view l v).globals ≡ Some (assigned l)
  holds none_layer v e = absurd (cc)
  holds (stack_layer d n) v e = absurd (cc)
  holds (global_layer g) v e = refl
  holds (sandboxed_layer d n s) v e = absurd (cc)
  holds (isolated_layer d g n s) v e = refl

  put_in : (l : Layer V) (v : View Reg) (q : List ℕ) (x : Tree) → is_global l ≡ true
      → layer_view (assigning (insert (assigned l) q x) l) v ≡ put_global (layer_view l v) q x
  put_in none_layer v q x e = absurd (cc)
  put_in (stack_layer d n) v q x e = absurd (cc)
  put_in (global_layer g) v q x e = refl
  put_in (sandboxed_layer d n s) v q x e = absurd (cc)
  put_in (isolated_layer d g n s) v q x e = refl

  split_globals : (v : View Reg) (before : List (Layer V)) (l : Layer V) (after : List (Layer V)) → is_global l ≡ true → Plain after
      → (shown_over v (before ++ l ∷ after)).globals ≡ Some (assigned l)
  split_globals v [] l after e p = shown_globals_are (layer_view l v) after p ∙ holds l v e
  split_globals v (m ∷ before) l after e p = split_globals (layer_view m v) before l after e p

  split_put : (v : View Reg) (before : List (Layer V)) (l : Layer V) (after : List (Layer V)) (q : List ℕ) (x : Tree) → is_global l ≡ true
      → Plain after
      → shown_over v (before ++ assigning (insert (assigned l) q x) l ∷ after) ≡ put_global (shown_over v (before ++ l ∷ after)) q x
  split_put v [] l after q x e p = ap (λ u. shown_over u after) (put_in l v q x e) ∙ shown_put_global (layer_view l v) after q x p
  split_put v (m ∷ before) l after q x e p = split_put (layer_view m v) before l after q x e p

  -- the registers that are taken out, and the frame that begins over the others
  pub begins_over : (v w : View Reg) (ls : List (Layer V)) (l : Layer V) → w ≡ with_registers (registers_of w) v
      → shown_over w (ls ++ l ∷ []) ≡ layer_view l (with_registers (registers_of w) (shown_over v ls))
  begins_over v w ls l e = shown_push w ls l ∙ ap (layer_view l) (ap (λ u. shown_over u ls) e ∙ shown_with_registers v ls (registers_of w))

  pub shown_step : {X : Type 0} (f : X → Layer V) (v : View Reg) (xs : List X) (i : ℕ) (x : X) → i < length xs → x ≡ get_or xs i x
      → shown_over v (map f (take (i + 1) xs)) ≡ layer_view (f x) (shown_over v (map f (take i xs)))
  shown_step f v xs i x h e = ap (shown_over v) (mapped_step f xs i x h e) ∙ shown_push v (map f (take i xs)) (f x)

  pub set_shown : {X : Type 0} (f : X → Layer V) (v : View Reg) (xs : List X) (i : ℕ) (x : X) (q : List ℕ) (t : Tree)
      → (p : GlobalAt (map f xs) i) → f x ≡ assigning (insert (assigned p.layer) q t) p.layer
      → shown_over v (map f (set xs i x)) ≡ put_global (shown_over v (map f xs)) q t
  set_shown f v xs i x q t p a =
      ap (shown_over v) (set_put f xs i x q t p a) ∙ split_put v p.before p.layer p.after q t p.global p.plain
      ∙ ap (λ ys. put_global (shown_over v ys) q t) (sym p.is)

  pub globals_here : (v : View Reg) (ls : List (Layer V)) (i : ℕ) → (p : GlobalAt ls i)
      → (shown_over v ls).globals ≡ Some (assigned p.layer)
  globals_here v ls i p = ap (λ xs. (shown_over v xs).globals) p.is ∙ split_globals v p.before p.layer p.after p.global p.plain

  pub seal_layer : (l : Layer V) (v : View Reg) (q : List ℕ) → comes_from_seal (layer_view l v) q ≡ layer_seals l q (comes_from_seal v q)
  seal_layer none_layer v q = refl
  seal_layer (stack_layer d n) v q = seal_stack d n v q
  seal_layer (global_layer g) v q = seal_global g v q
  seal_layer (sandboxed_layer d n s) v q = seal_sandboxed v.register d n v q
  seal_layer (isolated_layer d g n s) v q = seal_isolated g v.register d n v q

-- what endings restore, where the register is seen by its shape
module _ {V Reg : Type 0} (shape : V → Reg) where
  pub restoring_push : (v : View Reg) (ls : List (Layer V)) (l : Layer V) (rs : List (Restore Reg))
      → restoring shape v (ls ++ l ∷ []) rs ≡ layer_restores shape l (shown_over v ls) ∷ restoring shape v ls rs
  restoring_push v [] l rs = refl
  restoring_push v (m ∷ ls) l rs = restoring_push (layer_view m v) ls l (layer_restores shape m v ∷ rs)

  pub owed_more : {X : Type 0} (f : X → Layer V) (v : View Reg) (xs ys : List X) (x : X) (rs : List (Restore Reg)) → ys ≡ xs ++ x ∷ []
      → restoring shape v (map f ys) rs ≡ layer_restores shape (f x) (shown_over v (map f xs)) ∷ restoring shape v (map f xs) rs
  owed_more f v xs ys x rs e =
      ap (λ zs. restoring shape v (map f zs) rs) e ∙ ap (λ ls. restoring shape v ls rs) (map_append f xs (x ∷ []))
      ∙ restoring_push v (map f xs) (f x) rs

  index_restores : (l : Layer V) (v : View Reg) (q : List ℕ) (x : Tree)
      → layer_restores shape l (put_index v q x) ≡ layer_restores shape l v
  index_restores none_layer v q x = refl
  index_restores (stack_layer d n) v q x = refl
  index_restores (global_layer g) v q x = refl
  index_restores (sandboxed_layer d n s) v q x = refl
  index_restores (isolated_layer d g n s) v q x = refl

  pub restoring_put_index : (v : View Reg) (ls : List (Layer V)) (q : List ℕ) (x : Tree) (rs : List (Restore Reg))
      → restoring shape (put_index v q x) ls rs ≡ restoring shape v ls rs
  restoring_put_index v [] q x rs = refl
  restoring_put_index v (l ∷ ls) q x rs =
      ap (λ u. restoring shape u ls (layer_restores shape l (put_index v q x) ∷ rs)) (index_link l v q x)
      ∙ restoring_put_index (layer_view l v) ls q x (layer_restores shape l (put_index v q x) ∷ rs)
      ∙ ap (λ r. restoring shape (layer_view l v) ls (r ∷ rs)) (index_restores l v q x)

  registers_restores : (l : Layer V) (v : View Reg) (w : Registers Reg)
      → layer_restores shape l (with_registers w v) ≡ layer_restores shape l v
  registers_restores none_layer v w = refl
  registers_restores (stack_layer d n) v w = refl
  registers_restores (global_layer g) v w = refl
  registers_restores (sandboxed_layer d n s) v w = refl
  registers_restores (isolated_layer d g n s) v w = refl

  pub restoring_with_registers : (v : View Reg) (ls : List (Layer V)) (w : Registers Reg) (rs : List (Restore Reg))
      → restoring shape (with_registers w v) ls rs ≡ restoring shape v ls rs
  restoring_with_registers v [] w rs = refl
  restoring_with_registers v (l ∷ ls) w rs =
      ap (λ u. restoring shape u ls (layer_restores shape l (with_registers w v) ∷ rs)) (registers_link l v w)
      ∙ restoring_with_registers (layer_view l v) ls w (layer_restores shape l (with_registers w v) ∷ rs)
      ∙ ap (λ r. restoring shape (layer_view l v) ls (r ∷ rs)) (registers_restores l v w)

  one_open : (l : Layer V) (v : View Reg) (rs : List (Restore Reg))
      → length (opened (layer_restores shape l v ∷ rs)) ≡ length (opened rs) + 1
  one_open none_layer v rs = omega arith
  one_open (stack_layer d n) v rs = omega arith
  one_open (global_layer g) v rs = omega arith
  one_open (sandboxed_layer d n s) v rs = omega arith
  one_open (isolated_layer d g n s) v rs = omega arith

  pub count_open : (v : View Reg) (ls : List (Layer V)) (rs : List (Restore Reg))
      → length (opened (restoring shape v ls rs)) ≡ length ls + length (opened rs)
  count_open v [] rs = omega arith
  count_open v (l ∷ ls) rs = omega (arith, count_open (layer_view l v) ls (layer_restores shape l v ∷ rs), one_open l v rs)

  pub none_open : (v : View Reg) (ls : List (Layer V)) (rs : List (Restore Reg)) → opened (restoring shape v ls (scope_base ∷ rs)) ≡ []
      → ls ≡ []
  none_open v [] rs e = refl
  none_open v (l ∷ ls) rs e = absurd (omega (arith, count_open v (l ∷ ls) (scope_base ∷ rs), ap length e))

  global_restoring : (l : Layer V) (v : View Reg) (q : List ℕ) (x : Tree) → is_global l ≡ false
      → layer_restores shape l (put_global v q x) ≡ layer_restores shape l v
  global_restoring none_layer v q x e = refl
  global_restoring (stack_layer d n) v q x e = refl
  global_restoring (global_layer g) v q x e = absurd (cc)
  global_restoring (sandboxed_layer d n s) v q x e = refl
  global_restoring (isolated_layer d g n s) v q x e = absurd (cc)

  pub restoring_put_global : (v : View Reg) (ls : List (Layer V)) (q : List ℕ) (x : Tree) (rs : List (Restore Reg)) → Plain ls
      → restoring shape (put_global v q x) ls rs ≡ restoring shape v ls rs
  restoring_put_global v [] q x rs p = refl
  restoring_put_global v (l ∷ ls) q x rs p =
      ap (λ u. restoring shape u ls (layer_restores shape l (put_global v q x) ∷ rs)) (global_link l v q x p.0)
      ∙ restoring_put_global (layer_view l v) ls q x (layer_restores shape l (put_global v q x) ∷ rs) p.1
      ∙ ap (λ r. restoring shape (layer_view l v) ls (r ∷ rs)) (global_restoring l v q x p.0)

  assigning_restores : (m : Names) (l : Layer V) (v : View Reg) → layer_restores shape (assigning m l) v ≡ layer_restores shape l v
  assigning_restores m none_layer v = refl
  assigning_restores m (stack_layer d n) v = refl
  assigning_restores m (global_layer g) v = refl
  assigning_restores m (sandboxed_layer d n s) v = refl
  assigning_restores m (isolated_layer d g n s) v = refl

  split_restoring : (v : View Reg) (before : List (Layer V)) (l : Layer V) (after : List (Layer V)) (q : List ℕ) (x : Tree)
      (rs : List (Restore Reg)) → is_global l ≡ true → Plain after
      → restoring shape v (before ++ assigning (insert (assigned l) q x) l ∷ after) rs ≡ restoring shape v (before ++ l ∷ after) rs
  split_restoring v [] l after q x rs e p =
      let m = insert (assigned l) q x in
      ap (λ u. restoring shape u after (layer_restores shape (assigning m l) v ∷ rs)) (put_in l v q x e)
      ∙ restoring_put_global (layer_view l v) after q x (layer_restores shape (assigning m l) v ∷ rs) p
      ∙ ap (λ k. restoring shape (layer_view l v) after (k ∷ rs)) (assigning_restores m l v)
  split_restoring v (m ∷ before) l after q x rs e p =
      split_restoring (layer_view m v) before l after q x (layer_restores shape m v ∷ rs) e p

  pub restores_over : (v w : View Reg) (ls : List (Layer V)) (l : Layer V) (rs : List (Restore Reg)) → w ≡ with_registers (registers_of w) v
      → restoring shape w (ls ++ l ∷ []) rs ≡ layer_restores shape l (with_registers (registers_of w) (shown_over v ls))
      ∷ restoring shape v ls rs
  restores_over v w ls l rs e =
      restoring_push w ls l rs ∙ ap (λ u. layer_restores shape l u ∷ restoring shape w ls rs)
      (ap (λ u. shown_over u ls) e ∙ shown_with_registers v ls (registers_of w))
      ∙ ap (λ k. layer_restores shape l (with_registers (registers_of w) (shown_over v ls)) ∷ k)
      (ap (λ u. restoring shape u ls rs) e ∙ restoring_with_registers v ls (registers_of w) rs)

  pub pops : (v w : View Reg) (ls ls' : List (Layer V)) (l : Layer V) (rs rs' : List (Restore Reg)) → ls ≡ ls' ++ l ∷ []
      → w ≡ with_registers (registers_of w) v
      → ((u : View Reg) → registers_of u ≡ registers_of v → with_registers (registers_of w) u ≡ ending (layer_restores shape l u)
      (layer_view l u)) → rs' ≡ rs
      → EndsFirst (restoring shape v ls (scope_base ∷ rs)) (shown_over v ls) (restoring shape w ls' (scope_base ∷ rs')) (shown_over w ls')
  pops v w ls ls' l rs rs' e r f k = record {
    restores = layer_restores shape l (shown_over v ls');
    was_first = ap (λ xs. restoring shape v xs (scope_base ∷ rs)) e ∙ restoring_push v ls' l (scope_base ∷ rs)
        ∙ ap (λ xs. layer_restores shape l (shown_over v ls') ∷ xs) (sym
        (ap (λ u. restoring shape u ls' (scope_base ∷ rs')) r ∙ restoring_with_registers v ls' (registers_of w) (scope_base ∷ rs')
        ∙ ap (λ xs. restoring shape v ls' (scope_base ∷ xs)) k));
    is_ended = ap (λ u. shown_over u ls') r ∙ shown_with_registers v ls' (registers_of w) ∙ f (shown_over v ls') (shown_registers v ls')
        ∙ ap (ending (layer_restores shape l (shown_over v ls'))) (sym (ap (shown_over v) e ∙ shown_push v ls' l));
  }

  pub set_restoring : {X : Type 0} (f : X → Layer V) (v : View Reg) (xs : List X) (i : ℕ) (x : X) (q : List ℕ) (t : Tree)
      (rs : List (Restore Reg)) → (p : GlobalAt (map f xs) i) → f x ≡ assigning (insert (assigned p.layer) q t) p.layer
      → restoring shape v (map f (set xs i x)) rs ≡ restoring shape v (map f xs) rs
  set_restoring f v xs i x q t rs p a =
      ap (λ ys. restoring shape v ys rs) (set_put f xs i x q t p a) ∙ split_restoring v p.before p.layer p.after q t rs p.global p.plain
      ∙ ap (λ ys. restoring shape v ys rs) (sym p.is)

  -- a frame that is opened and closed at once leaves the base as it was
  pub given_back : (v w u : View Reg) (l k : Layer V) (fresh : Reg) (f : FrameShape) → w ≡ with_registers (registers_of w) v
      → u ≡ with_registers (registers_of u) w
      → ((x : View Reg) → registers_of x ≡ registers_of v → layer_view l (with_registers (registers_of w) x) ≡ beginning fresh f x)
      → ((x : View Reg) → registers_of x ≡ registers_of v → layer_restores shape l (with_registers (registers_of w) x) ≡ restored_by f x)
      → ((x : View Reg) → registers_of x ≡ registers_of w → with_registers (registers_of u) x ≡ ending (layer_restores shape k x)
      (layer_view k x))
      → k ≡ l → u ≡ v
  given_back v w u l k fresh f e d b r n same =
      d ∙ ap (with_registers (registers_of u)) e ∙ n (with_registers (registers_of w) v) refl
      ∙ ap (λ m. ending (layer_restores shape m (with_registers (registers_of w) v)) (layer_view m (with_registers (registers_of w) v)))
      same
      ∙ ap (λ y. ending y (layer_view l (with_registers (registers_of w) v))) (r v refl)
      ∙ ap (ending (restored_by f v)) (b v refl) ∙ ending_begun fresh f v
