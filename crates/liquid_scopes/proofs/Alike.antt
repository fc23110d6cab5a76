-- The same calls have the same results, and leave the same.
use Rattle.std.proofs.Common.{◌≡◌, List, [], ◌∷◌, map, refl, sym, ap, ◌∙◌, subst}
use Rattle.liquid_runtime.specs.meaning.View.{View}
use Rattle.liquid_runtime.specs.meaning.Frames.{Restore, ending}
use Rattle.liquid_scopes.specs.meaning.Histories.{
  Call,
  push,
  pop,
  set_global,
  set_index,
  try_get,
  get,
  get_index,
  Answer,
  Makes,
  Made,
  left_by,
}

tail_of : {X : Type 0} → List X → List X
tail_of [] = []
tail_of (x ∷ xs) = xs

head_or : {X : Type 0} → X → List X → X
head_or d [] = d
head_or d (x ∷ xs) = x

module _ {Reg : Type 0} (fresh : Reg) where
  one_call : (call : Call) (v : View Reg) (rs : List (Restore Reg)) (a : Answer) (w : View Reg) (ss : List (Restore Reg)) (b : Answer)
      (x : View Reg) (ts : List (Restore Reg))
      → Makes fresh call v rs a w ss → Makes fresh call v rs b x ts → (a ≡ b) × (w ≡ x) × (ss ≡ ts)
  unfolding head_or tail_of
  one_call (push f) v rs a w ss b x ts p q = (p.0 ∙ sym q.0, p.1 ∙ sym q.1, p.2 ∙ sym q.2)
  one_call pop v rs a w ss b x ts p q =
      let e = sym p.1.was_first ∙ q.1.was_first in (
        p.0 ∙ sym q.0,
        p.1.is_ended ∙ ap (λ r. ending r v) (ap (head_or p.1.restores) e) ∙ sym q.1.is_ended,
        ap tail_of e,
      )
  one_call (set_global name t) v rs a w ss b x ts p q = (p.0 ∙ sym q.0, p.1 ∙ sym q.1, p.2 ∙ sym q.2)
  one_call (set_index name t) v rs a w ss b x ts p q = (p.0 ∙ sym q.0, p.1 ∙ sym q.1, p.2 ∙ sym q.2)
  one_call (try_get path) v rs a w ss b x ts p q = (p.0 ∙ sym q.0, p.1 ∙ sym q.1, p.2 ∙ sym q.2)
  one_call (get path) v rs a w ss b x ts p q = (p.0 ∙ sym q.0, p.1 ∙ sym q.1, p.2 ∙ sym q.2)
  one_call (get_index name) v rs a w ss b x ts p q = (p.0 ∙ sym q.0, p.1 ∙ sym q.1, p.2 ∙ sym q.2)

  module _ {S T : Type 0} (view : S → View Reg) (restores : S → List (Restore Reg)) (view' : T → View Reg)
      (restores' : T → List (Restore Reg)) where
    pub same_answers : (s : S) (t : T) (calls : List Call) (outs : List (Answer × S)) (outs' : List (Answer × T)) → view s ≡ view' t
        → restores s ≡ restores' t
        → Made view restores fresh s calls outs → Made view' restores' fresh t calls outs'
        → map (left_by view restores) outs ≡ map (left_by view' restores') outs'
    same_answers s t [] [] [] e d m n = refl
    same_answers s t [] [] (out' ∷ outs') e d m n = absurd n
    same_answers s t [] (out ∷ outs) outs' e d m n = absurd m
    same_answers s t (call ∷ calls) [] outs' e d m n = absurd m
    same_answers s t (call ∷ calls) (out ∷ outs) [] e d m n = absurd n
    same_answers s t (call ∷ calls) (out ∷ outs) (out' ∷ outs') e d m n =
        let moved =
        subst (λ v. Makes fresh call v (restores s) out'.0 (view' out'.1) (restores' out'.1)) (sym e)
        (subst (λ rs. Makes fresh call (view' t) rs out'.0 (view' out'.1) (restores' out'.1)) (sym d) n.0) in
        let k =
        one_call call (view s) (restores s) out.0 (view out.1) (restores out.1) out'.0 (view' out'.1) (restores' out'.1) m.0 moved in
        ap (λ a. (a, view out.1, restores out.1) ∷ map (left_by view restores) outs) k.0
        ∙ ap (λ w. (out'.0, w, restores out.1) ∷ map (left_by view restores) outs) k.1
        ∙ ap (λ ss. (out'.0, view' out'.1, ss) ∷ map (left_by view restores) outs) k.2
        ∙ ap (λ xs. left_by view' restores' out' ∷ xs) (same_answers out.1 out'.1 calls outs outs' k.1 k.2 m.1 n.1)
