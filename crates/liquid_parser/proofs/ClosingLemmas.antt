-- Elements that are read until no block is open.
use Rattle.std.proofs.Common.{
  ◌≡◌,
  ◌<◌,
  arith,
  ℕ,
  List,
  [],
  ◌∷◌,
  ◌++◌,
  length,
  Option,
  None,
  Some,
  Result,
  Ok,
  Err,
  Bor,
  append_assoc,
  refl,
  sym,
  ap,
  ◌∙◌,
  subst,
}
use Rattle.std.specs.Prelude.{IfSome, IfOk}
use Rattle.liquid_error.specs.declared.error.Error.{Error}
use Rattle.liquid_error.specs.meaning.Told.{Gives}
use Rattle.liquid_error.specs.meaning.Refusal.{Refusal, ok_then}
use Rattle.liquid_grammar.specs.meaning.Cover.{Element, IsElement, Cover, done}
use Rattle.liquid_grammar.proofs.CoverLemmas.{cover_of, joined_cover}
use Rattle.liquid_plugins.specs.meaning.Nodes.{NodeShape}
use Rattle.liquid_parser.specs.meaning.ElementReading.{element_checked, read_closed}
use Rattle.liquid_parser.specs.meaning.Lang.{Lang}
use Rattle.liquid_parser.specs.meaning.Reading.{State, Open, among, inside, step, ended}
use Rattle.liquid_parser.specs.steps.Views.{advanced, past_escaped, LeadsTo}
use Rattle.liquid_parser.proofs.ElementLemmas.{unchecked_step}
use Rattle.liquid_parser.proofs.EscapeLemmas.{past_then, taken}

module _ {F T P B : Type 0} (l : Lang F T P B) (s : List ℕ) (outside : ℕ) where
  -- the first element, if a block is open
  closed_first : (following : List ℕ) (e : Element) (blocks : List (Open F T P B)) (nodes : List (NodeShape F T B)) (es : List Element)
      → 0 < length blocks → Cover following es
      → read_closed l s outside (among blocks nodes) (e ∷ es) ≡ ok_then (advanced l s outside (among blocks nodes) s following e es)
      (λ p. read_closed l s outside p.0 p.1)
  closed_first following e [] nodes es some c = absurd (omega (arith, some))
  closed_first following e (b ∷ blocks) nodes es some c =
      ap (λ x. ok_then (step l s outside (among (b ∷ blocks) nodes) e x) (λ n. read_closed l s outside n es)) (joined_cover following es c)
      ∙ past_then l s outside (read_closed l s outside) (λ c bs level so_far. refl) (λ c bs level so_far e' es'. refl)
      (step l s outside (among (b ∷ blocks) nodes) e following) es

  -- what is left of the text is read from this state on as the text is from the first
  abbrev pub Closing : List ℕ → State F T P B → List ℕ → State F T P B → Type 0
  Closing text first rest st =
      (es : List Element) → Cover text es → (left : List Element) × Cover rest left
      × (read_closed l s outside first es ≡ read_closed l s outside st left)

  pub Closing-on : (text rest following : List ℕ) (first : State F T P B) (e : Element) (blocks : List (Open F T P B))
      (nodes : List (NodeShape F T B)) (st : State F T P B) (after : List ℕ)
      → Closing text first rest (among blocks nodes) → 0 < length blocks → IsElement rest following e
      → ((es : List Element) → Cover following es → (left : List Element) × Cover after left
      × (advanced l s outside (among blocks nodes) s following e es ≡ Ok (st, left))) → Closing text first after st
  Closing-on text rest following first e blocks nodes st after goes some is leads es c =
      let w = goes es c in
      let t = taken rest following e w.0 is w.1 in
      let here = leads t.others t.cover in (
        here.0,
        here.1,
        w.2 ∙ (ap (read_closed l s outside (among blocks nodes)) t.is
            ∙ (closed_first following e blocks nodes t.others some t.cover
            ∙ ap (λ r. ok_then r (λ p. read_closed l s outside p.0 p.1)) here.2)),
      )

  pub Closing-refused : (text rest following : List ℕ) (first : State F T P B) (e : Element) (blocks : List (Open F T P B))
      (nodes : List (NodeShape F T B)) (o : Option Refusal)
      → Closing text first rest (among blocks nodes) → 0 < length blocks → IsElement rest following e
      → ((es : List Element) → Cover following es → IfSome o (λ r. advanced l s outside (among blocks nodes) s following e es ≡ Err r))
      → (es : List Element) → Cover text es → IfSome o (λ r. read_closed l s outside first es ≡ Err r)
  Closing-refused text rest following first e blocks nodes None goes some is fails es c = tt
  Closing-refused text rest following first e blocks nodes (Some r) goes some is fails es c =
      let w = goes es c in
      let t = taken rest following e w.0 is w.1 in
      w.2 ∙ (ap (read_closed l s outside (among blocks nodes)) t.is
      ∙ (closed_first following e blocks nodes t.others some t.cover
      ∙ ap (λ q. ok_then q (λ p. read_closed l s outside p.0 p.1)) (fails t.others t.cover)))

  pub Closing-unchecked : (text rest following : List ℕ) (first : State F T P B) (e : Element) (blocks : List (Open F T P B))
      (nodes : List (NodeShape F T B)) (o : Option Refusal)
      → Closing text first rest (among blocks nodes) → 0 < length blocks → IsElement rest following e
      → IfSome o (λ r. element_checked s e ≡ Err r)
      → (es : List Element) → Cover text es → IfSome o (λ r. read_closed l s outside first es ≡ Err r)
  Closing-unchecked text rest following first e blocks nodes None goes some is fault es c = tt
  Closing-unchecked text rest following first e blocks nodes (Some r) goes some is fault es c =
      Closing-refused text rest following first e blocks nodes (Some r) goes some is
      (λ es c. unchecked_step l s outside blocks nodes e following es r fault) es c

  -- the text ends
  ended_then : (blocks : List (Open F T P B)) (nodes : List (NodeShape F T B))
      → read_closed l s outside (among blocks nodes) [] ≡ ok_then (ended s (among blocks nodes)) (λ ns. Ok (ns, []))
  ended_then [] nodes = refl
  ended_then (b ∷ blocks) nodes = refl

  closing_end : (text rest : List ℕ) (first : State F T P B) (blocks : List (Open F T P B)) (nodes : List (NodeShape F T B))
      → Closing text first rest (among blocks nodes) → rest ≡ []
      → (es : List Element) → Cover text es → Cover rest [] × (read_closed l s outside first es ≡ ok_then (ended s (among blocks nodes))
      (λ ns. Ok (ns, [])))
  closing_end text rest first blocks nodes goes empty es c =
      let w = goes es c in
      let o = cover_of [] in
      let none : w.0 ≡ [] = o.only w.0 (subst (λ x. Cover x w.0) empty w.1) ∙ sym (o.only [] done) in
      (subst (λ x. Cover x []) (sym empty) done, w.2 ∙ (ap (read_closed l s outside (among blocks nodes)) none ∙ ended_then blocks nodes))

  pub Closing-end : {A : Type 0} (of : A → List (NodeShape F T B)) (text rest : List ℕ) (first : State F T P B)
      (blocks : List (Open F T P B)) (nodes : List (NodeShape F T B)) (found : A) (left : Bor (List ℕ))
      → Closing text first rest (among blocks nodes) → rest ≡ [] → left.now ≡ rest → Gives of (Ok found) (ended s (among blocks nodes))
      → (es : List Element) → Cover text es → LeadsTo of (Ok (found, left)) (read_closed l s outside first es)
  Closing-end of text rest first blocks nodes found left goes empty same given es c =
      let e = closing_end text rest first blocks nodes goes empty es c in
      ([], subst (λ x. Cover x []) (sym same) e.0, e.1 ∙ ap (λ r. ok_then r (λ ns. Ok (ns, []))) given)

  pub Closing-unclosed : (text rest : List ℕ) (first : State F T P B) (blocks : List (Open F T P B)) (nodes : List (NodeShape F T B))
      (o : Option Refusal)
      → Closing text first rest (among blocks nodes) → rest ≡ [] → IfSome o (λ r. ended s (among blocks nodes) ≡ Err r)
      → (es : List Element) → Cover text es → IfSome o (λ r. read_closed l s outside first es ≡ Err r)
  Closing-unclosed text rest first blocks nodes None goes empty given es c = tt
  Closing-unclosed text rest first blocks nodes (Some r) goes empty given es c =
      let e = closing_end text rest first blocks nodes goes empty es c in
      e.1 ∙ ap (λ q. ok_then q (λ ns. Ok (ns, []))) given

  -- no block is open
  pub Closing-closed : (text rest : List ℕ) (first : State F T P B) (blocks : List (Open F T P B)) (nodes : List (NodeShape F T B))
      → Closing text first rest (among blocks nodes) → blocks ≡ []
      → (es : List Element) → Cover text es → (left : List Element) × Cover rest left
      × (read_closed l s outside first es ≡ Ok (nodes, left))
  Closing-closed text rest first blocks nodes goes none es c =
      let w = goes es c in (w.0, w.1, w.2 ∙ ap (λ bs. read_closed l s outside (among bs nodes) w.0) none)

  -- the escaped body of a block that has just begun
  closed_past : (b : Open F T P B) (blocks : List (Open F T P B)) (es : List Element)
      → read_closed l s outside (inside b blocks 0 []) es ≡ ok_then (past_escaped s (inside b blocks 0 []) es)
      (λ p. read_closed l s outside p.0 p.1)
  closed_past b blocks es =
      past_then l s outside (read_closed l s outside) (λ c bs level so_far. refl) (λ c bs level so_far e' es'. refl)
      (Ok (inside b blocks 0 [])) es

  pub past_ok : {A : Type 0} (of : A → List (NodeShape F T B)) (result : Result (A × Bor (List ℕ)) Error) (b : Open F T P B)
      (blocks : List (Open F T P B)) (st : State F T P B) (es left : List Element)
      → past_escaped s (inside b blocks 0 []) es ≡ Ok (st, left) → LeadsTo of result (read_closed l s outside st left)
      → LeadsTo of result (read_closed l s outside (inside b blocks 0 []) es)
  past_ok of result b blocks st es left e h =
      subst (λ x. LeadsTo of result x) (sym (closed_past b blocks es ∙ ap (λ r. ok_then r (λ p. read_closed l s outside p.0 p.1)) e)) h

  pub past_err : (b : Open F T P B) (blocks : List (Open F T P B)) (es : List Element) (o : Option Refusal)
      → IfSome o (λ r. past_escaped s (inside b blocks 0 []) es ≡ Err r)
      → IfSome o (λ r. read_closed l s outside (inside b blocks 0 []) es ≡ Err r)
  past_err b blocks es None h = tt
  past_err b blocks es (Some r) h = closed_past b blocks es ∙ ap (λ q. ok_then q (λ p. read_closed l s outside p.0 p.1)) h

-- further on in a text
pub further : (text rest following after t : List ℕ) → ((front : List ℕ) × (text ≡ front ++ rest)) → rest ≡ t ++ following
    → ((front : List ℕ) × (following ≡ front ++ after)) → (front : List ℕ) × (text ≡ front ++ after)
further text rest following after t f is g = (
  (f.0 ++ t) ++ g.0,
  f.1 ∙ (ap (λ x. f.0 ++ x) is ∙ (sym (append_assoc f.0 t following)
      ∙ (ap (λ x. (f.0 ++ t) ++ x) g.1 ∙ sym (append_assoc (f.0 ++ t) g.0 after)))),
)

pub within_further : {A : Type 0} (r : Result (A × Bor (List ℕ)) Error) (text after : List ℕ) → ((front : List ℕ) × (text ≡ front ++ after))
    → IfOk r (λ p. (front : List ℕ) × (after ≡ front ++ p.1.now))
    → IfOk r (λ p. (front : List ℕ) × (text ≡ front ++ p.1.now))
within_further (Ok p) text after f g = (f.0 ++ g.0, f.1 ∙ (ap (λ x. f.0 ++ x) g.1 ∙ sym (append_assoc f.0 g.0 p.1.now)))
within_further (Err e) text after f g = tt

pub empty_list : {A : Type 0} (xs : List A) → length xs ≡ 0 → xs ≡ []
empty_list [] e = refl
empty_list (x ∷ xs) e = absurd (omega (arith, e))
