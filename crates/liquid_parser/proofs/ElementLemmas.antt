-- The elements of the program, as they are returned and read.
use Rattle.std.proofs.Common.{◌≡◌, ℕ, List, [], ◌∷◌, ◌++◌, Option, None, Result, Ok, Err, Bor, refl, sym, ap, ◌∙◌, subst}
use Rattle.std.specs.Prelude.{IfSome, codes, option_map}
use Rattle.std.proofs.lemmas.Bool.{eqb-true}
use Rattle.liquid_error.specs.meaning.Refusal.{Refusal, ok_then}
use Rattle.liquid_grammar.specs.declared.element.TagText.{TagText}
use Rattle.liquid_grammar.specs.declared.element.ChainText.{ChainText}
use Rattle.liquid_grammar.specs.declared.element.Element.TheVariants as found
use Rattle.liquid_grammar.specs.meaning.Cover.{Element, raw, tag_element, expression, invalid, text_of, IsElement}
use Rattle.liquid_grammar.specs.meaning.Elements.{Means}
use Rattle.liquid_grammar.specs.meaning.Faults.{tag_fault, chain_fault}
use Rattle.liquid_grammar.specs.meaning.Grammar.{White}
use Rattle.liquid_grammar.specs.meaning.KindMeanings.{token_kind_of}
use Rattle.liquid_grammar.specs.meaning.Kinds.{identifier_of}
use Rattle.liquid_grammar.specs.meaning.Meanings.{faults_of}
use Rattle.liquid_grammar.specs.meaning.Rules.{Repeated, ◌▷◌}
use Rattle.liquid_grammar.specs.meaning.Tokens as token
use Rattle.liquid_grammar.specs.meaning.Tokens.{ChainRule, ExpressionRule, TagRule, TokenRule}
use Rattle.liquid_plugins.specs.meaning.Nodes.{NodeShape, text_node}
use Rattle.liquid_parser.specs.declared.cursor.element.Raw.{Raw as RawCursor}
use Rattle.liquid_parser.specs.declared.cursor.element.Exp.{Exp as ExpCursor}
use Rattle.liquid_parser.specs.declared.cursor.element.InvalidLiquidToken.{InvalidLiquidToken}
use Rattle.liquid_parser.specs.declared.cursor.element.BlockElement.TheVariants as cursor
use Rattle.liquid_parser.specs.declared.cursor.tag.Tag.{Tag}
use Rattle.liquid_parser.specs.meaning.Elements.{IsExpression, IsInvalid, StandsFor}
use Rattle.liquid_parser.specs.meaning.ElementReading.{HandsOver, element_checked}
use Rattle.liquid_parser.specs.meaning.Lang.{Lang}
use Rattle.liquid_parser.specs.meaning.Reading.{State, Open, among, step, checked, expression_read, node_added, tag_read, refused_at}
use Rattle.liquid_parser.specs.steps.Views.{advanced, past_escaped}
use Rattle.liquid_parser.specs.meaning.WholeTag.{IsTag}
use Rattle.liquid_parser.proofs.TokenLemmas.{same_rest}
use Rattle.liquid_parser.proofs.VariableLemmas.{checked_none}

-- the text of an element
pub raw_text : (x : RawCursor) (source following : List ℕ) (e : Element) → StandsFor (cursor.Raw x) source following e
    → x.text.now ≡ text_of e
raw_text x source following (raw text) m = m
raw_text x source following (tag_element t text) m = absurd m
raw_text x source following (expression c text) m = absurd m
raw_text x source following (invalid text) m = absurd m

pub tag_text : (x : Tag) (source following : List ℕ) (e : Element) → StandsFor (cursor.Tag x) source following e → x.text.now ≡ text_of e
tag_text x source following (tag_element t text) m = m.1
tag_text x source following (raw text) m = absurd m
tag_text x source following (expression c text) m = absurd m
tag_text x source following (invalid text) m = absurd m

pub expression_text : (x : ExpCursor) (source following : List ℕ) (e : Element) → StandsFor (cursor.Expression x) source following e
    → x.text.now ≡ text_of e
expression_text x source following (expression c text) m = m.1
expression_text x source following (raw text) m = absurd m
expression_text x source following (tag_element t text) m = absurd m
expression_text x source following (invalid text) m = absurd m

pub invalid_text : (x : InvalidLiquidToken) (source following : List ℕ) (e : Element) → StandsFor (cursor.Invalid x) source following e
    → x.text.now ≡ text_of e
invalid_text x source following (invalid text) m = m.1
invalid_text x source following (raw text) m = absurd m
invalid_text x source following (tag_element t text) m = absurd m
invalid_text x source following (expression c text) m = absurd m

-- what is neither a tag nor an expression has its brace after its whitespace
pub lone_brace_at : (s following text brace white : List ℕ) → IsElement s following (invalid text) → White s brace white → brace ≡ 123
    ∷ following
lone_brace_at s following text brace white is w =
    let lone = is.kind.brace.match in
    let same : lone.middle ≡ brace = same_rest s lone.middle brace _ _ lone.before w in
    sym same ∙ (lone.after.front ∙ ap (λ b. b ∷ following) (eqb-true _ 123 lone.after.passes))

-- elements are returned
module _ (source : Bor (List ℕ)) (s following : List ℕ) where
  pub raw_over : (t : Bor (List ℕ)) (e : Element) → Means (found.Raw t) e
      → HandsOver (Ok (cursor.Raw (record { text = t }))) source.now following e
  raw_over t (raw text) m = (refl, m)
  raw_over t (tag_element tag text) m = absurd m
  raw_over t (expression c text) m = absurd m
  raw_over t (invalid text) m = absurd m

  pub tag_over : ((r rest : List ℕ) (tag : token.Tag) → TagRule r rest tag
      → Repeated (White ▷ TokenRule) tag.1.place tag.1.following tag.1.what)
      → (t : TagText) (e : Element) → IsElement s following e → Means (found.Tag t) e → checked source.now (faults_of t.fault) ≡ Ok tt
      → HandsOver (Ok (cursor.Tag (record {
        name = t.name;
        from = t.place;
        text = t.text;
        tokens = record { source = source; rest = t.tokens };
      }))) source.now following e
  tag_over tokens t (tag_element tag text) is m ok =
      let fine : tag_fault tag ≡ None = sym m.fault_is ∙ checked_none source.now _ ok in (
        ap (checked source.now) fine,
        (
          record {
            name_is = m.name_is;
            from_is = m.place_is;
            source_is = refl;
            tokens_are = record { tag = tag; begins = sym m.tokens_are; match = tokens s following tag is.kind; fine = fine; is = refl };
            fine = fine;
          },
          m.text_is,
        ),
      )
  tag_over tokens t (raw text) is m ok = absurd m
  tag_over tokens t (expression c text) is m ok = absurd m
  tag_over tokens t (invalid text) is m ok = absurd m

  pub tag_not_over : (t : TagText) (o : Option Refusal) (e : Element) → Means (found.Tag t) e
      → IfSome o (λ r. checked source.now (faults_of t.fault) ≡ Err r) → IfSome o (λ r. element_checked source.now e ≡ Err r)
  tag_not_over t o (tag_element tag text) m h = subst (λ f. IfSome o (λ r. checked source.now f ≡ Err r)) m.fault_is h
  tag_not_over t o (raw text) m h = absurd m
  tag_not_over t o (expression c text) m h = absurd m
  tag_not_over t o (invalid text) m h = absurd m

  pub expression_over : ((r rest : List ℕ) (c : token.Chain) → ExpressionRule r rest c → ChainRule c.place c.following c)
      → (t : ChainText) (name : Option (Bor (List ℕ))) (e : Element) → IsElement s following e → Means (found.Expression t) e
      → checked source.now (faults_of t.fault) ≡ Ok tt
      → option_map (λ n. n.now) name ≡ identifier_of (token_kind_of t.kind)
      → HandsOver (Ok (cursor.Expression (record { source = source; text = t.text; chain = t.chain; name = name }))) source.now following e
  expression_over within t name (expression c text) is m ok named =
      let fine : chain_fault c ≡ None = sym m.fault_is ∙ checked_none source.now _ ok in (
        ap (checked source.now) fine,
        (
          record {
            source_is = refl;
            match = subst (λ p. ChainRule p c.following c) (sym m.chain_is) (within s following c is.kind.match);
            name_is = named ∙ ap identifier_of m.kind_is;
            fine = fine;
          },
          m.text_is,
        ),
      )
  expression_over within t name (raw text) is m ok named = absurd m
  expression_over within t name (tag_element tag text) is m ok named = absurd m
  expression_over within t name (invalid text) is m ok named = absurd m

  pub expression_not_over : (t : ChainText) (o : Option Refusal) (e : Element) → Means (found.Expression t) e
      → IfSome o (λ r. checked source.now (faults_of t.fault) ≡ Err r) → IfSome o (λ r. element_checked source.now e ≡ Err r)
  expression_not_over t o (expression c text) m h = subst (λ f. IfSome o (λ r. checked source.now f ≡ Err r)) m.fault_is h
  expression_not_over t o (raw text) m h = absurd m
  expression_not_over t o (tag_element tag text) m h = absurd m
  expression_not_over t o (invalid text) m h = absurd m

  pub invalid_over : (t brace : Bor (List ℕ)) (white : List ℕ) (e : Element) → IsElement s following e → Means (found.Invalid t) e
      → White s brace.now white
      → HandsOver (Ok (cursor.Invalid (record { source = source; text = t; brace = brace }))) source.now following e
  invalid_over t brace white (invalid text) is m w =
      (refl, (record { source_is = refl; brace_is = lone_brace_at s following text brace.now white is w }, m))
  invalid_over t brace white (raw text) is m w = absurd m
  invalid_over t brace white (tag_element tag text) is m w = absurd m
  invalid_over t brace white (expression c text) is m w = absurd m

-- elements are read
module _ {F T P B : Type 0} (l : Lang F T P B) (source : List ℕ) (outside : ℕ) (blocks : List (Open F T P B))
    (nodes : List (NodeShape F T B)) where
  pub raw_step : (x : RawCursor) (following : List ℕ) (e : Element) → StandsFor (cursor.Raw x) source following e
      → step l source outside (among blocks nodes) e following ≡ Ok (among blocks (nodes ++ text_node x.text.now ∷ []))
  raw_step x following (raw text) m = ap (λ y. Ok (among blocks (nodes ++ text_node y ∷ []))) (sym m)
  raw_step x following (tag_element tag text) m = absurd m
  raw_step x following (expression c text) m = absurd m
  raw_step x following (invalid text) m = absurd m

  pub tag_step : (x : Tag) (following : List ℕ) (e : Element) → StandsFor (cursor.Tag x) source following e
      → (tag : token.Tag) × IsTag x source tag × (step l source outside
      (among blocks nodes) e following ≡ tag_read l source outside blocks nodes tag)
  tag_step x following (tag_element tag text) m =
      (tag, m.0, ap (λ f. ok_then (checked source f) (λ _. tag_read l source outside blocks nodes tag)) m.0.fine)
  tag_step x following (raw text) m = absurd m
  tag_step x following (expression c text) m = absurd m
  tag_step x following (invalid text) m = absurd m

  pub expression_step : (x : ExpCursor) (following : List ℕ) (e : Element) → StandsFor (cursor.Expression x) source following e
      → (c : token.Chain) × IsExpression x source c × (step l source outside (among blocks nodes) e following ≡ node_added blocks nodes
      (expression_read l.filters source c))
  expression_step x following (expression c text) m = (
    c,
    m.0,
    ap (λ f. ok_then (checked source f) (λ _. node_added blocks nodes (expression_read l.filters source c))) m.0.fine,
  )
  expression_step x following (raw text) m = absurd m
  expression_step x following (tag_element tag text) m = absurd m
  expression_step x following (invalid text) m = absurd m

  pub invalid_step : (x : InvalidLiquidToken) (following : List ℕ) (e : Element) → StandsFor (cursor.Invalid x) source following e
      → IsInvalid x source following × (step l source outside (among blocks nodes) e following ≡ Err
      (refused_at source (codes "Invalid liquid") (123 ∷ following)))
  invalid_step x following (invalid text) m = (m.0, refl)
  invalid_step x following (raw text) m = absurd m
  invalid_step x following (tag_element tag text) m = absurd m
  invalid_step x following (expression c text) m = absurd m

  fault_first : {A C : Type 0} (m : Result A Refusal) (k : A → Result (State F T P B) Refusal) (n : State F T P B → Result C Refusal)
      (r : Refusal) → m ≡ Err r → ok_then (ok_then m k) n ≡ Err r
  fault_first m k n r h = ap (λ x. ok_then (ok_then x k) n) h

  -- an element with a fault
  pub unchecked_step : (e : Element) (following : List ℕ) (es : List Element) (r : Refusal) → element_checked source e ≡ Err r
      → advanced l source outside (among blocks nodes) source following e es ≡ Err r
  unchecked_step (tag_element tag text) following es r h =
      fault_first _ (λ _. tag_read l source outside blocks nodes tag) (λ n. past_escaped source n es) r h
  unchecked_step (expression c text) following es r h =
      fault_first _ (λ _. node_added blocks nodes (expression_read l.filters source c)) (λ n. past_escaped source n es) r h
  unchecked_step (raw text) following es r h = cc
  unchecked_step (invalid text) following es r h = cc
