-- Escaped bodies, element by element.
use Rattle.std.proofs.Common.{◌≡◌, ℕ, Bool, List, [], ◌∷◌, ◌++◌, Option, Some, None, Result, Ok, Err, append_assoc, refl, sym, ap, ◌∙◌}
use Rattle.std.specs.Prelude.{IfSome}
use Rattle.std.specs.Option.{option_map_or}
use Rattle.liquid_error.specs.meaning.Refusal.{Refusal, ok_then}
use Rattle.liquid_grammar.specs.meaning.Cover.{Element, text_of, IsElement, Cover, next, joined}
use Rattle.liquid_grammar.proofs.CoverLemmas.{cover_of}
use Rattle.liquid_plugins.specs.meaning.Nodes.{NodeShape}
use Rattle.liquid_parser.specs.meaning.Lang.{Lang, escaped}
use Rattle.liquid_parser.specs.meaning.Reading.{State, Open, among, inside, step, escape, level_after, escape_read, finished, unclosed_by}
use Rattle.liquid_parser.specs.steps.Views.{escaped_body, past_escaped}

-- `rest` is left of the body, after this text, and this many starts are without their ends
pub record Going (body end_name start_name : List ℕ) (nests : Bool) (rest : List ℕ) (level : ℕ) : Type 0 where
  pub so_far : List ℕ
  pub whole : body ≡ so_far ++ rest
  pub onward : (es : List Element) → Cover body es → (left : List Element) × Cover rest left
      × (escape end_name start_name nests 0 [] es ≡ escape end_name start_name nests level so_far left)

-- the first element of what is left, and those after it
pub record Taken (rest following : List ℕ) (e : Element) (left : List Element) : Type 0 where
  pub others : List Element
  pub is : left ≡ e ∷ others
  pub cover : Cover following others

pub taken : (rest following : List ℕ) (e : Element) (left : List Element) → IsElement rest following e → Cover rest left
    → Taken rest following e left
taken rest following e left is c =
    let o = cover_of following in
    let r = cover_of rest in
    record { others = o.elements; is = r.only left c ∙ sym (r.only (e ∷ o.elements) (next is o.cover)); cover = o.cover }

module _ (body end_name start_name : List ℕ) (nests : Bool) where
  pub going_next : (rest following : List ℕ) (e : Element) (level level' : ℕ) → Going body end_name start_name nests rest level
      → IsElement rest following e
      → level_after end_name start_name nests level e ≡ Some level' → Going body end_name start_name nests following level'
  going_next rest following e level level' g is at = record {
    so_far = g.so_far ++ text_of e;
    whole = g.whole ∙ (ap (λ r. g.so_far ++ r) is.joined ∙ sym (append_assoc g.so_far (text_of e) following));
    onward = λ es c.
        let w = g.onward es c in
        let t = taken rest following e w.0 is w.1 in (
          t.others,
          t.cover,
          w.2 ∙ (ap (escape end_name start_name nests level g.so_far) t.is
              ∙ ap (λ o. option_map_or (λ n. escape end_name start_name nests n (g.so_far ++ text_of e) t.others) o
              (Some (g.so_far, t.others))) at),
        );
  }

  -- the end of the body
  pub going_end : (rest following text : List ℕ) (e : Element) (level : ℕ) → (g : Going body end_name start_name nests rest level)
      → IsElement rest following e
      → level_after end_name start_name nests level e ≡ None → g.so_far ≡ text
      → (es : List Element) → Cover body es → (left : List Element) × Cover following left
      × (escape end_name start_name nests 0 [] es ≡ Some (text, left))
  going_end rest following text e level g is at same es c =
      let w = g.onward es c in
      let t = taken rest following e w.0 is w.1 in (
        t.others,
        t.cover,
        w.2 ∙ (ap (escape end_name start_name nests level g.so_far) t.is
            ∙ (ap (λ o. option_map_or (λ n. escape end_name start_name nests n (g.so_far ++ text_of e) t.others) o
            (Some (g.so_far, t.others))) at
            ∙ ap (λ x. Some (x, t.others)) same)),
      )

  pub going_after : (rest following : List ℕ) (e : Element) (level : ℕ) → Going body end_name start_name nests rest level
      → IsElement rest following e → (front : List ℕ) × (body ≡ front ++ following)
  going_after rest following e level g is =
      (g.so_far ++ text_of e, g.whole ∙ (ap (λ r. g.so_far ++ r) is.joined ∙ sym (append_assoc g.so_far (text_of e) following)))

-- a reading that continues after each element continues after the end of an escaped body
module _ {F T P B A : Type 0} (l : Lang F T P B) (source : List ℕ) (outside : ℕ) (k : State F T P B → List Element → Result A Refusal)
    (ends : (b : Open F T P B) (blocks : List (Open F T P B)) (level : ℕ) (so_far : List ℕ)
    → k (inside b blocks level so_far) [] ≡ Err (unclosed_by source b.kind.names.end_name))
    (steps : (b : Open F T P B) (blocks : List (Open F T P B)) (level : ℕ) (so_far : List ℕ) (e : Element) (es : List Element)
    → k (inside b blocks level so_far) (e ∷ es) ≡ ok_then (step l source outside (inside b blocks level so_far) e (joined es))
    (λ n. k n es)) where
  past_read : (b : Open F T P B) (blocks : List (Open F T P B)) (level : ℕ) (so_far : List ℕ) (es : List Element)
      → k (inside b blocks level so_far) es ≡ ok_then (past_escaped source (inside b blocks level so_far) es) (λ p. k p.0 p.1)
  past_read b blocks level so_far [] = ends b blocks level so_far
  past_read b blocks level so_far (e ∷ es) =
      steps b blocks level so_far e es ∙ go (level_after b.kind.names.end_name b.kind.names.start_name b.kind.means.nests level e)
      (λ n. past_read b blocks n (so_far ++ text_of e) es)
    where
      finish_then : (m : Result (List (NodeShape F T B)) Refusal)
          → ok_then {A = State F T P B} (ok_then m (λ nodes. Ok (among blocks nodes))) (λ n. k n es) ≡ ok_then
          {A = State F T P B × List Element} (ok_then m (λ nodes. Ok (among blocks nodes, es))) (λ p. k p.0 p.1)
      finish_then (Ok n) = refl
      finish_then (Err r) = refl

      go : (o : Option ℕ) → ((n : ℕ) → k (inside b blocks n (so_far ++ text_of e)) es ≡ ok_then
          (escaped_body source b blocks (escape b.kind.names.end_name b.kind.names.start_name b.kind.means.nests n
          (so_far ++ text_of e) es)) (λ p. k p.0 p.1))
          → ok_then (escape_read b blocks so_far (text_of e) o) (λ n. k n es)
          ≡ ok_then (escaped_body source b blocks (option_map_or (λ n. escape b.kind.names.end_name b.kind.names.start_name
          b.kind.means.nests n (so_far ++ text_of e) es) o (Some (so_far, es)))) (λ p. k p.0 p.1)
      go None onward = finish_then (finished b (escaped so_far) [])
      go (Some n) onward = onward n

  pub past_then : (r : Result (State F T P B) Refusal) (es : List Element)
      → ok_then r (λ n. k n es) ≡ ok_then (ok_then r (λ n. past_escaped source n es)) (λ p. k p.0 p.1)
  past_then (Err e) es = refl
  past_then (Ok (among blocks nodes)) es = refl
  past_then (Ok (inside b blocks level so_far)) es = past_read b blocks level so_far es

-- the results of a call that reads an escaped body
module _ {F T P B : Type 0} (source : List ℕ) (b : Open F T P B) (blocks : List (Open F T P B)) where
  pub escaped_ok : (o : Option (List ℕ × List Element)) (left : List Element) (text : List ℕ) (nodes : List (NodeShape F T B))
      → o ≡ Some (text, left) → finished b (escaped text) [] ≡ Ok nodes
      → escaped_body source b blocks o ≡ Ok (among blocks nodes, left)
  escaped_ok o left text nodes e f = ap (escaped_body source b blocks) e ∙ ap (λ r. ok_then r (λ ns. Ok (among blocks ns, left))) f

  pub escaped_err : (told : Option Refusal) (o : Option (List ℕ × List Element)) (left : List Element) (text : List ℕ)
      → o ≡ Some (text, left) → IfSome told (λ r. finished b (escaped text) [] ≡ Err r)
      → IfSome told (λ r. escaped_body source b blocks o ≡ Err r)
  escaped_err None o left text e f = tt
  escaped_err (Some r) o left text e f = ap (escaped_body source b blocks) e ∙ ap (λ q. ok_then q (λ ns. Ok (among blocks ns, left))) f

  pub escaped_open : (told : Option Refusal) (o : Option (List ℕ × List Element)) → o ≡ None
      → IfSome told (λ r. r ≡ unclosed_by source b.kind.names.end_name) → IfSome told (λ r. escaped_body source b blocks o ≡ Err r)
  escaped_open None o e f = tt
  escaped_open (Some r) o e f = ap (escaped_body source b blocks) e ∙ ap (λ x. Err x) (sym f)
