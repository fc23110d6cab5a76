-- The reading of a text, element by element: what an unfinished reading keeps, how it continues, and how it ends.
use Rattle.std.proofs.Common.{◌≡◌, ℕ, List, [], ◌∷◌, Option, None, Some, Result, Ok, Err, refl, sym, ap, ◌∙◌}
use Rattle.std.specs.Prelude.{IfSome}
use Rattle.liquid_error.specs.declared.error.Error.{Error}
use Rattle.liquid_error.specs.meaning.Told.{told, Gives}
use Rattle.liquid_grammar.specs.meaning.Cover.{Element, IsElement, Cover, done, next}
use Rattle.liquid_grammar.proofs.CoverLemmas.{cover_of, joined_cover}
use Rattle.liquid_plugins.specs.meaning.Nodes.{NodeShape}
use Rattle.liquid_error.specs.meaning.Refusal.{Refusal, ok_then}
use Rattle.liquid_parser.specs.meaning.ElementReading.{element_checked}
use Rattle.liquid_parser.specs.meaning.Lang.{Lang}
use Rattle.liquid_parser.specs.meaning.Reading.{State, Open, among, beginning, step, ended, read, answer, Reads, Answers}
use Rattle.liquid_parser.specs.steps.Views.{advanced}
use Rattle.liquid_parser.proofs.ElementLemmas.{unchecked_step}
use Rattle.liquid_parser.proofs.EscapeLemmas.{past_then}

module _ {F T P B : Type 0} (l : Lang F T P B) (s : List ℕ) where
  -- what came before `rest` leads to this state: whatever covers the rest ends a cover of the text whose result is the
  -- rest's from this state
  abbrev pub Goes : List ℕ → State F T P B → Type 0
  Goes rest st = (es : List Element) → Cover rest es → (all : List Element) × Cover s all × (answer l s all ≡ read l s 0 st es)

  pub Goes-begin : (st : State F T P B) → st ≡ beginning → Goes s st
  Goes-begin st e es c = (es, c, ap (λ x. read l s 0 x es) (sym e))

  -- what the reading of the rest gives if its first element is read
  read_first : (following : List ℕ) (e : Element) (blocks : List (Open F T P B)) (nodes : List (NodeShape F T B)) (es : List Element)
      → Cover following es
      → read l s 0 (among blocks nodes) (e ∷ es) ≡ ok_then (advanced l s 0 (among blocks nodes) s following e es) (λ p. read l s 0 p.0 p.1)
  read_first following e blocks nodes es c =
      ap (λ b. ok_then (step l s 0 (among blocks nodes) e b) (λ n. read l s 0 n es)) (joined_cover following es c)
      ∙ past_then l s 0 (read l s 0) (λ b bs level so_far. refl) (λ b bs level so_far e' es'. refl)
      (step l s 0 (among blocks nodes) e following) es

  -- one more element
  pub Goes-on : (rest following : List ℕ) (e : Element) (blocks : List (Open F T P B)) (nodes : List (NodeShape F T B)) (st : State F T P B)
      (after : List ℕ)
      → Goes rest (among blocks nodes) → IsElement rest following e
      → ((es : List Element) → Cover following es → (left : List Element) × Cover after left
      × (advanced l s 0 (among blocks nodes) s following e es ≡ Ok (st, left))) → Goes after st
  Goes-on rest following e blocks nodes st after goes is leads es c =
      let o = cover_of following in
      let w = goes (e ∷ o.elements) (next is o.cover) in
      let here = leads o.elements o.cover in
      let same = cover_of after in (
        w.0,
        w.1,
        w.2 ∙ (read_first following e blocks nodes o.elements o.cover
            ∙ (ap (λ r. ok_then r (λ p. read l s 0 p.0 p.1)) here.2 ∙ ap (read l s 0 st) (same.only here.0 here.1 ∙ sym (same.only es c)))),
      )

  refused_one : (rest following : List ℕ) (e : Element) (blocks : List (Open F T P B)) (nodes : List (NodeShape F T B)) (r : Refusal)
      → Goes rest (among blocks nodes) → IsElement rest following e
      → ((es : List Element) → Cover following es → advanced l s 0 (among blocks nodes) s following e es ≡ Err r) → Reads l s (Err r)
  refused_one rest following e blocks nodes r goes is gives =
      let o = cover_of following in
      let w = goes (e ∷ o.elements) (next is o.cover) in
      record {
        elements = w.0;
        cover = w.1;
        is = sym (w.2 ∙ (read_first following e blocks nodes o.elements o.cover
            ∙ ap (λ q. ok_then q (λ p. read l s 0 p.0 p.1)) (gives o.elements o.cover)));
      }

  pub refused : (rest following : List ℕ) (e : Element) (blocks : List (Open F T P B)) (nodes : List (NodeShape F T B)) (o : Option Refusal)
      → Goes rest (among blocks nodes) → IsElement rest following e
      → ((es : List Element) → Cover following es → IfSome o (λ r. advanced l s 0 (among blocks nodes) s following e es ≡ Err r))
      → IfSome o (λ r. Reads l s (Err r))
  refused rest following e blocks nodes None goes is gives = tt
  refused rest following e blocks nodes (Some r) goes is gives = refused_one rest following e blocks nodes r goes is gives

  -- an element with a fault
  pub unchecked : (rest following : List ℕ) (e : Element) (blocks : List (Open F T P B)) (nodes : List (NodeShape F T B))
      (o : Option Refusal) → Goes rest (among blocks nodes) → IsElement rest following e
      → IfSome o (λ r. element_checked s e ≡ Err r) → IfSome o (λ r. Reads l s (Err r))
  unchecked rest following e blocks nodes None goes is fault = tt
  unchecked rest following e blocks nodes (Some r) goes is fault =
      refused_one rest following e blocks nodes r goes is (λ es c. unchecked_step l s 0 blocks nodes e following es r fault)

  pub Reads-end : (st : State F T P B) (a : Result (List (NodeShape F T B)) Refusal) → Goes [] st → ended s st ≡ a → Reads l s a
  Reads-end st a g e = let w = g [] done in record { elements = w.0; cover = w.1; is = sym (w.2 ∙ e) }

  same_reading : {a b : Result (List (NodeShape F T B)) Refusal} → Reads l s a → Reads l s b → a ≡ b
  same_reading r q =
      let o = cover_of s in
      r.is ∙ (ap (answer l s) (o.only r.elements r.cover ∙ sym (o.only q.elements q.cover)) ∙ sym q.is)

  if_some_weaker : {A : Type 0} {G Q : A → Type 0} (o : Option A) → ((x : A) → G x → Q x) → IfSome o G → IfSome o Q
  if_some_weaker None f h = tt
  if_some_weaker (Some x) f h = f x h

  pub ends : {A : Type 0} (of : A → List (NodeShape F T B)) (st : State F T P B) (result : Result A Error) → Goes [] st
      → Gives of result (ended s st) → Answers of l s result
  ends of st (Ok n) g h = Reads-end st _ g h
  ends of st (Err e) g h = if_some_weaker (told e) (λ r q. Reads-end st _ g q) h

  pub found_only : {A : Type 0} (of : A → List (NodeShape F T B)) (result : Result A Error) → Answers of l s result
      → (a : Result (List (NodeShape F T B)) Refusal) → Reads l s a → Gives of result a
  found_only of (Ok n) h a reads = same_reading reads h
  found_only of (Err e) h a reads = if_some_weaker (told e) (λ r q. same_reading reads q) h

  pub one_reading : (a : Result (List (NodeShape F T B)) Refusal) × Reads l s a
      × ((b : Result (List (NodeShape F T B)) Refusal) → Reads l s b → b ≡ a)
  one_reading =
      let o = cover_of s in (
        answer l s o.elements,
        record { elements = o.elements; cover = o.cover; is = refl },
        λ b r. r.is
            ∙ ap (answer l s) (o.only r.elements r.cover),
      )
