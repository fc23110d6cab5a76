-- All elements of a block, one after another.
use Rattle.std.proofs.Common.{
  ◌≡◌,
  ℕ,
  Bool,
  true,
  false,
  List,
  [],
  ◌∷◌,
  ◌++◌,
  Option,
  Some,
  None,
  Result,
  Ok,
  Err,
  refl,
  sym,
  ap,
  ◌∙◌,
  subst,
  append_assoc,
}
use Rattle.std.specs.Prelude.{IfSome}
use Rattle.std.proofs.lemmas.List.{append-nil}
use Rattle.liquid_error.specs.meaning.Refusal.{Refusal}
use Rattle.liquid_grammar.specs.meaning.Cover.{Element, Cover}
use Rattle.liquid_grammar.proofs.CoverLemmas.{cover_of}
use Rattle.liquid_plugins.specs.meaning.Nodes.{NodeShape}
use Rattle.liquid_parser.specs.declared.cursor.block.TagBlock.{TagBlock}
use Rattle.liquid_parser.specs.meaning.BlockReading.{
  next_read,
  in_front,
  AllRead,
  refused,
  ended,
  one_more,
  FindsAll,
  IsAll,
  ParsedNext,
  Passes,
}
use Rattle.liquid_parser.specs.meaning.Lang.{Lang}

in_front_twice : {N : Type 0} (xs ys : List N) (a : Result (List N × List Element) Refusal)
    → in_front xs (in_front ys a) ≡ in_front (xs ++ ys) a
in_front_twice xs ys (Ok p) = ap (λ zs. Ok (zs, p.1)) (sym (append_assoc xs ys p.0))
in_front_twice xs ys (Err r) = refl

module _ {F T P B : Type 0} (l : Lang F T P B) (source end_name : List ℕ) (outside : ℕ) where
  abbrev Reads : List Element → Result (List (NodeShape F T B) × List Element) Refusal → Type 0
  Reads = AllRead l source end_name outside

  -- what the next node says about all of them
  abbrev Then : Result (Option (List (NodeShape F T B)) × List Element) Refusal → Result (List (NodeShape F T B) × List Element) Refusal
      → Type 0
  Then (Err r) a = a ≡ Err r
  Then (Ok (None, left)) a = a ≡ Ok ([], left)
  Then (Ok (Some nodes, left)) a = (b : Result (List (NodeShape F T B) × List Element) Refusal) × Reads left b × (a ≡ in_front nodes b)

  then_of : {es : List Element} {a : Result (List (NodeShape F T B) × List Element) Refusal} → AllRead l source end_name outside es a
      → Then (next_read l source end_name outside es) a
  then_of (refused {r = r} h) = subst (λ x. Then x (Err r)) (sym h) refl
  then_of (ended {left = left} h) = subst (λ x. Then x (Ok ([], left))) (sym h) refl
  then_of (one_more {nodes = nodes} {a = a} h more) = subst (λ x. Then x (in_front nodes a)) (sym h) (a, more, refl)

  pub same_all : {es : List Element} {a b : Result (List (NodeShape F T B) × List Element) Refusal} → AllRead l source end_name outside es a
      → AllRead l source end_name outside es b → a ≡ b
  same_all {b = b} (refused h) other = sym (subst (λ x. Then x b) h (then_of other))
  same_all {b = b} (ended h) other = sym (subst (λ x. Then x b) h (then_of other))
  same_all {b = b} (one_more {nodes = nodes} h more) other =
      let t = subst (λ x. Then x b) h (then_of other) in
      ap (in_front nodes) (same_all more t.1) ∙ sym t.2

  -- how far all are read: in an open block what follows makes the result, and in a closed one the result is there
  abbrev pub Progress : Bool → (es left : List Element) → List (NodeShape F T B) → Type 0
  Progress false es left done =
      (a : Result (List (NodeShape F T B) × List Element) Refusal) → AllRead l source end_name outside left a
      → AllRead l source end_name outside es (in_front done a)
  Progress true es left done = AllRead l source end_name outside es (Ok (done, left))

  -- the same for all that covers a text
  abbrev pub Onward : List ℕ → Bool → List ℕ → List (NodeShape F T B) → Type 0
  Onward text closed rest done =
      (es : List Element) → Cover text es → (left : List Element) × Cover rest left × Progress closed es left done

  pub Onward-node : (text rest rest' : List ℕ) (closed closed' : Bool) (done done' : List (NodeShape F T B)) (n : NodeShape F T B)
      → Onward text closed rest done → closed ≡ false → closed' ≡ false → done' ≡ done ++ n ∷ []
      → ((es : List Element) → Cover rest es → (left : List Element) × Cover rest' left
      × (next_read l source end_name outside es ≡ Ok (Some (n ∷ []), left))) → Onward text closed' rest' done'
  Onward-node text rest rest' closed closed' done done' n goes is_open is_open' is gives es c =
      let w = goes es c in
      let g = gives w.0 w.1 in
      let progress : Progress false es w.0 done = subst (λ b. Progress b es w.0 done) is_open w.2 in (
        g.0,
        g.1,
        subst (λ b. Progress b es g.0 done') (sym is_open') (λ a h. subst (λ d. AllRead l source end_name outside es (in_front d a))
            (sym is)
            (subst (λ x. AllRead l source end_name outside es x) (in_front_twice done (n ∷ []) a)
            (progress (in_front (n ∷ []) a) (one_more g.2 h)))),
      )

  pub Onward-end : (text rest rest' : List ℕ) (closed closed' : Bool) (done : List (NodeShape F T B)) → Onward text closed rest done
      → closed ≡ false → closed' ≡ true
      → ((es : List Element) → Cover rest es → (left : List Element) × Cover rest' left
      × (next_read l source end_name outside es ≡ Ok (None, left))) → Onward text closed' rest' done
  Onward-end text rest rest' closed closed' done goes is_open shut gives es c =
      let w = goes es c in
      let g = gives w.0 w.1 in
      let progress : Progress false es w.0 done = subst (λ b. Progress b es w.0 done) is_open w.2 in (
        g.0,
        g.1,
        subst (λ b. Progress b es g.0 done) (sym shut) (subst (λ d. AllRead l source end_name outside es (Ok (d, g.0))) (append-nil done)
            (progress (Ok ([], g.0)) (ended g.2))),
      )

  pub Onward-refused : (text rest : List ℕ) (closed : Bool) (done : List (NodeShape F T B)) (o : Option Refusal)
      → Onward text closed rest done → closed ≡ false
      → ((es : List Element) → Cover rest es → IfSome o (λ r. next_read l source end_name outside es ≡ Err r)) → (es : List Element)
      → Cover text es → IfSome o (λ r. AllRead l source end_name outside es (Err r))
  Onward-refused text rest closed done None goes is_open gives es c = tt
  Onward-refused text rest closed done (Some r) goes is_open gives es c =
      let w = goes es c in
      let progress : Progress false es w.0 done = subst (λ b. Progress b es w.0 done) is_open w.2 in
      progress (Err r) (refused (gives w.0 w.1))

  pub Onward-all : (text rest : List ℕ) (closed : Bool) (done : List (NodeShape F T B)) → Onward text closed rest done → closed ≡ true
      → (es : List Element) → Cover text es → (left : List Element) × Cover rest left
      × AllRead l source end_name outside es (Ok (done, left))
  Onward-all text rest closed done goes shut es c = let w = goes es c in (w.0, w.1, subst (λ b. Progress b es w.0 done) shut w.2)

-- what was found is all there is
pub only_err : {F T P B : Type 0} (l : Lang F T P B) (outside : ℕ) (o : Option Refusal) (es : List Element) (source end_name : List ℕ)
    (a : Result (List (NodeShape F T B) × List Element) Refusal)
    → IfSome o (λ r. AllRead l source end_name outside es (Err r)) → AllRead l source end_name outside es a → IfSome o (λ r. a ≡ Err r)
only_err l outside None es source end_name a h all = tt
only_err l outside (Some r) es source end_name a h all = same_all l source end_name outside all h

pub only_ok : {F T P B A : Type 0} (of : A → List (NodeShape F T B)) (l : Lang F T P B) (outside : ℕ) (nodes : A) (block : TagBlock)
    (es : List Element) (source end_name : List ℕ)
    → block.source.now ≡ source → block.end_name.now ≡ end_name → FindsAll of l outside (Ok nodes) block es
    → (a : Result (List (NodeShape F T B) × List Element) Refusal) → AllRead l source end_name outside es a → IsAll of (Ok nodes) block a
only_ok of l outside nodes block es source end_name s n found a all =
    let here : AllRead l source end_name outside es (Ok (of nodes, found.0)) =
    subst (λ x. AllRead l x end_name outside es (Ok (of nodes, found.0))) s
    (subst (λ x. AllRead l block.source.now x outside es (Ok (of nodes, found.0))) n found.2) in
    (found.0, found.1, same_all l source end_name outside all here)

-- the same for calls on a cursor, from the one at first to the one now and the next
module _ {F T P B A : Type 0} (l : Lang F T P B) (outside : ℕ) (of : A → NodeShape F T B) (old now : TagBlock)
    (passes : Passes old now) where
  here : (es : List Element) (r : Result (Option (List (NodeShape F T B)) × List Element) Refusal)
      → next_read l now.source.now now.end_name.now outside es ≡ r → next_read l old.source.now old.end_name.now outside es ≡ r
  here es r h =
      subst (λ s. next_read l s old.end_name.now outside es ≡ r) (ap (λ b. b.now) passes.source_is)
      (subst (λ n. next_read l now.source.now n outside es ≡ r) (ap (λ b. b.now) passes.end_is) h)

  here_too : (es : List Element) (a : Result (List (NodeShape F T B) × List Element) Refusal)
      → AllRead l old.source.now old.end_name.now outside es a → AllRead l now.source.now now.end_name.now outside es a
  here_too es a h =
      subst (λ s. AllRead l s now.end_name.now outside es a) (sym (ap (λ b. b.now) passes.source_is))
      (subst (λ n. AllRead l old.source.now n outside es a) (sym (ap (λ b. b.now) passes.end_is)) h)

  pub goes_node : (new : TagBlock) (n : A) (done done' : List (NodeShape F T B)) → now.is_closed ≡ false
      → Onward l old.source.now old.end_name.now outside old.rest.now now.is_closed now.rest.now done → done' ≡ done ++ of n ∷ []
      → ((es : List Element) → Cover now.rest.now es → ParsedNext of (Ok (Some n)) new
      (next_read l now.source.now now.end_name.now outside es))
      → Onward l old.source.now old.end_name.now outside old.rest.now new.is_closed new.rest.now done'
  goes_node new n done done' is_open goes is gives =
      let o = cover_of now.rest.now in
      Onward-node l old.source.now old.end_name.now outside old.rest.now now.rest.now new.rest.now now.is_closed new.is_closed done done'
      (of n) goes is_open (gives o.elements o.cover).3 is
      (λ es c. let p = gives es c in (p.0, p.1, here es _ p.2))

  pub goes_end : (new : TagBlock) (done : List (NodeShape F T B)) → now.is_closed ≡ false
      → Onward l old.source.now old.end_name.now outside old.rest.now now.is_closed now.rest.now done
      → ((es : List Element) → Cover now.rest.now es → ParsedNext of (Ok None) new (next_read l now.source.now now.end_name.now outside es))
      → Onward l old.source.now old.end_name.now outside old.rest.now new.is_closed new.rest.now done
  goes_end new done is_open goes gives =
      let o = cover_of now.rest.now in
      Onward-end l old.source.now old.end_name.now outside old.rest.now now.rest.now new.rest.now now.is_closed new.is_closed done goes
      is_open (gives o.elements o.cover).3
      (λ es c. let p = gives es c in (p.0, p.1, here es _ p.2))

  pub goes_refused : (o : Option Refusal) (done : List (NodeShape F T B)) → now.is_closed ≡ false
      → Onward l old.source.now old.end_name.now outside old.rest.now now.is_closed now.rest.now done
      → ((es : List Element) → Cover now.rest.now es → IfSome o (λ r. next_read l now.source.now now.end_name.now outside es ≡ Err r))
      → (es : List Element) → Cover old.rest.now es → IfSome o (λ r. AllRead l old.source.now old.end_name.now outside es (Err r))
  goes_refused None done is_open goes gives es c = tt
  goes_refused (Some r) done is_open goes gives es c =
      Onward-refused l old.source.now old.end_name.now outside old.rest.now now.rest.now now.is_closed done (Some r) goes is_open
      (λ es c. here es _ (gives es c)) es c

  -- what is found at a cursor further on
  pub found_err : (o : Option Refusal) (es : List Element) → IfSome o (λ r. AllRead l old.source.now old.end_name.now outside es (Err r))
      → IfSome o (λ r. AllRead l now.source.now now.end_name.now outside es (Err r))
  found_err None es h = tt
  found_err (Some r) es h = here_too es (Err r) h

  pub found_all : {C : Type 0} (all_of : C → List (NodeShape F T B)) (found : C) → now.is_closed ≡ true
      → Onward l old.source.now old.end_name.now outside old.rest.now now.is_closed now.rest.now (all_of found)
      → (es : List Element) → Cover old.rest.now es → FindsAll all_of l outside (Ok found) now es
  found_all all_of found shut goes es c =
      let w = Onward-all l old.source.now old.end_name.now outside old.rest.now now.rest.now now.is_closed (all_of found) goes shut es c in
      (w.0, w.1, here_too es _ w.2, shut)

-- an open block is not closed
pub still_closed : {A : Type 0} (old now : TagBlock) → now.is_closed ≡ false → now ≡ old → old.is_closed ≡ true → A
still_closed old now is_open same shut = let both : false ≡ true = sym is_open ∙ (ap (λ b. TagBlock.is_closed b) same ∙ shut) in cc
