-- What is before and after the chain of an expression.
use Rattle.std.proofs.Common.{◌≡◌, ℕ, true, false, ◌==◌, List, ◌∷◌, Option, Some, None, option_map, IfSome, Bor, refl, sym, ap, ◌∙◌, subst}
use Rattle.std.proofs.lemmas.Bool.{eqb-true}
use Rattle.std.specs.Option.{option_or}
use Rattle.liquid_grammar.specs.meaning.Bytes.{is_white}
use Rattle.liquid_grammar.specs.meaning.Cover.{IsElement, expression}
use Rattle.liquid_grammar.specs.meaning.Grammar.{White, Closer}
use Rattle.liquid_grammar.specs.meaning.Rules.{Begins, ◌▷◌, ◌◁◌, here, instead, ends, more}
use Rattle.liquid_grammar.specs.meaning.Values.{IndexRule}
use Rattle.liquid_grammar.specs.meaning.Tokens.{Chain, Following, FilterRule, ChainRule, ExpressionStart, ExpressionRule, TagRule}
use Rattle.liquid_grammar.specs.meaning.Parts.{OpensExpression, ClosesExpression}
use Rattle.liquid_grammar.specs.steps.Steps.{byte, white, braces, dashed_opener, opener, closer}
use Rattle.liquid_grammar.proofs.Exact.{none_begins, same_match}
use Rattle.liquid_grammar.proofs.FlatBrackets.{left_some, left_none}
use Rattle.liquid_grammar.proofs.GrammarExact.{exact-white, exact-braces, exact-opener, exact-closer}
use Rattle.liquid_grammar.proofs.IndexPartLemmas.{same_byte}
use Rattle.liquid_grammar.proofs.PartLemmas.{after_begins}
use Rattle.liquid_grammar.proofs.TokenExact.{exact-full_expression}

-- after two braces an opener ends at its dash, or at once if there is none; and no tag's opener is there
dashed : (b : ℕ) (t rest : List ℕ) → byte 45 t ≡ Some (b, rest) → opener 123 (123 ∷ 123 ∷ t) ≡ Some (b, rest)
unfolding opener dashed_opener braces white
dashed b t rest e =
    let first : ℕ × List ℕ → (ℕ × ℕ) × List ℕ = λ c. ((123, c.0), c.1) in
    let second : (ℕ × ℕ) × List ℕ → ℕ × List ℕ = λ p. (p.0.1, p.1) in
    ap (λ o. option_or (option_map second (option_map first o)) (Some (123, t))) e

plain : (t : List ℕ) → byte 45 t ≡ None → opener 123 (123 ∷ 123 ∷ t) ≡ Some (123, t)
unfolding opener dashed_opener braces white
plain t e =
    let first : ℕ × List ℕ → (ℕ × ℕ) × List ℕ = λ c. ((123, c.0), c.1) in
    let second : (ℕ × ℕ) × List ℕ → ℕ × List ℕ = λ p. (p.0.1, p.1) in
    ap (λ o. option_or (option_map second (option_map first o)) (Some (123, t))) e

no_tag_opener : (t : List ℕ) → opener 37 (123 ∷ 123 ∷ t) ≡ None
unfolding opener dashed_opener braces white
no_tag_opener t = refl

-- two braces, and what follows them
two_braces : (s inside : List ℕ) → Some inside ≡ option_map (λ p. p.1) (braces 123 s) → s ≡ 123 ∷ 123 ∷ inside
two_braces s inside e =
    let x = left_some (braces 123 s) inside e in
    let m = (exact-braces 123).sound s x.0.1 x.0.0 x.1 in
    let then = m.match in
    let first = eqb-true _ 123 then.before.passes in
    let second = eqb-true _ 123 then.after.passes in
    then.before.front ∙ (ap (λ b. b ∷ then.middle) first ∙ ap (λ r. 123 ∷ r)
    (then.after.front ∙ (ap (λ b. b ∷ x.0.1) second ∙ ap (λ r. 123 ∷ r) x.2)))

no_tag_here : (t : List ℕ) → ¬ (Begins TagRule (123 ∷ 123 ∷ t))
no_tag_here t b =
    let opened = b.match.match.before.match.before.before.match.before.match.before in
    none_begins (exact-opener 37) (123 ∷ 123 ∷ t) (no_tag_opener t) (record { rest = _; shape = _; match = opened })

opens_after : (t start : List ℕ) (b : ℕ) (following : List ℕ) → opener 123 (123 ∷ 123 ∷ t) ≡ Some (b, following)
    → Some start ≡ option_map (λ p. p.1) (white following) → OpensExpression (123 ∷ 123 ∷ t) start
opens_after t start b following e w =
    let x = left_some (white following) start w in
    let after : White following start x.0.0 = subst (λ r. White following r x.0.0) x.2 (exact-white.sound following x.0.1 x.0.0 x.1) in
    record {
      white = x.0.0;
      match = record {
        from = (b, x.0.0);
        match =
            record { middle = following; before = (exact-opener 123).sound (123 ∷ 123 ∷ t) following b e; after = after };
        is = refl;
      };
      no_tag = no_tag_here t;
    }

pub opens_dashed : (s inside following start : List ℕ) → Some inside ≡ option_map (λ p. p.1) (braces 123 s)
    → Some following ≡ option_map (λ p. p.1) (byte 45 inside) → Some start ≡ option_map (λ p. p.1) (white following)
    → OpensExpression s start
opens_dashed s inside following start e d w =
    let x = left_some (byte 45 inside) following d in
    subst (λ p. OpensExpression p start) (sym (two_braces s inside e))
    (opens_after inside start x.0.0 x.0.1 (dashed x.0.0 inside x.0.1 x.1)
    (subst (λ r. Some start ≡ option_map (λ p. p.1) (white r)) (sym x.2) w))

pub opens_plain : (s inside start : List ℕ) → Some inside ≡ option_map (λ p. p.1) (braces 123 s)
    → None ≡ option_map (λ p. p.1) (byte 45 inside) → Some start ≡ option_map (λ p. p.1) (white inside) → OpensExpression s start
opens_plain s inside start e d w =
    subst (λ p. OpensExpression p start) (sym (two_braces s inside e))
    (opens_after inside start 123 inside (plain inside (left_none (byte 45 inside) d)) w)

pub closes : (s following : List ℕ) (r : Option (Bor (List ℕ))) → Some following ≡ option_map (λ p. p.1) (white s)
    → option_map (λ rest. rest.now) r ≡ option_map (λ p. p.1) (closer 125 following) → IfSome r (λ rest. ClosesExpression s rest.now)
closes s following None w e = tt
closes s following (Some rest) w e =
    let x = left_some (closer 125 following) rest.now e in
    let m : Closer 125 following rest.now x.0.0 = subst (λ r. Closer 125 following r x.0.0) x.2
    ((exact-closer 125).sound following x.0.1 x.0.0 x.1) in
    record { byte = x.0.0; match = after_begins exact-white s following rest.now x.0.0 w m }

-- a closer begins with a dash or a brace
pub first_of : (s rest : List ℕ) (byte : ℕ) (b : ℕ) (t : List ℕ) → s ≡ b ∷ t → (b == 45) ≡ false → (b == 125) ≡ false
    → Closer 125 s rest byte → ⊥
first_of s rest byte b t e dash brace (here m) =
    let first = m.match.before.match.before.match.before in
    let is : (b == 45) ≡ true = subst (λ x. (x == 45) ≡ true) (same_byte s _ _ _ b first.front e) first.passes in
    cc (is, dash)
first_of s rest byte b t e dash brace (instead none m) =
    let first = m.match.before in
    let is : (b == 125) ≡ true = subst (λ x. (x == 125) ≡ true) (same_byte s _ _ _ b first.front e) first.passes in
    cc (is, brace)

-- nothing that begins with another byte is a closer, after whitespace or none
closes_by : (s rest t : List ℕ) (b : ℕ) → s ≡ b ∷ t → is_white b ≡ false → (b == 45) ≡ false → (b == 125) ≡ false
    → ClosesExpression s rest → ⊥
closes_by s rest t b e black dash brace c = go c.match.match.middle c.match.from.0 c.match.match.before c.match.match.after
  where
    go : (middle white : List ℕ) → White s middle white → Closer 125 middle rest c.match.from.1 → ⊥
    go middle white (ends none) close = first_of s rest c.match.from.1 b t e dash brace close
    go middle white (more {shape = w} m ms) close =
        let h : is_white b ≡ true = subst (λ x. is_white x ≡ true) (same_byte s _ _ w b m.front e) m.passes in
        cc (h, black)

pub no_index_here : (s rest : List ℕ) → ClosesExpression s rest → ¬ (Begins IndexRule s)
no_index_here s rest c b = go b.match
  where
    go : IndexRule s b.rest b.shape → ⊥
    go (here m) =
        let first = m.match.match.before in
        closes_by s rest m.match.match.middle 46
        (first.front ∙ ap (λ x. x ∷ m.match.match.middle) (eqb-true _ 46 first.passes)) refl refl refl c
    go (instead unmatched m) =
        let opened = m.match.match.match.before.match.before.match in
        closes_by s rest opened.middle 91 (opened.before.front ∙ ap (λ x. x ∷ opened.middle)
        (eqb-true _ 91 opened.before.passes)) refl refl refl c

pub same_white : (s a b v w : List ℕ) → White s a v → White s b w → a ≡ b
same_white s a b v w m n = ap (λ (x : List ℕ × List ℕ). x.1) (same_match exact-white s a b v w m n)

pub no_filter_here : (s rest : List ℕ) → ClosesExpression s rest → ¬ (Begins (Following 124 FilterRule) s)
no_filter_here s rest c b =
    let separated = b.match.match.before.match.before in
    let bar = separated.match.after in
    let same = same_white s c.match.match.middle separated.match.middle _ _ c.match.match.before separated.match.before in
    first_of c.match.match.middle rest _ 124 _
    (same ∙ (bar.front ∙ ap (λ x. x ∷ b.match.match.before.match.middle) (eqb-true _ 124 bar.passes))) refl refl c.match.match.after

pub element_stands : (s start end rest : List ℕ) (chain : Chain) → OpensExpression s start → ChainRule start end chain
    → ClosesExpression end rest → (text : List ℕ) × IsElement s rest (expression chain text)
element_stands s start end rest chain o m c =
    let closed = c.match.match in
    let opened : (ExpressionStart ▷ ChainRule) s end chain =
    record { from = (o.white, chain); match = record { middle = start; before = o.match; after = m }; is = refl } in
    let following : (ExpressionStart ▷ ChainRule ◁ White) s closed.middle chain =
    record { from = (chain, c.match.from.0); match = record { middle = end; before = opened; after = closed.before }; is = refl } in
    let whole : ExpressionRule s rest chain =
    record {
      from = (chain, c.match.from.1);
      match =
          record { middle = closed.middle; before = following; after = closed.after };
      is = refl;
    } in
    let cut = exact-full_expression.cuts s rest chain whole in
    (cut.0, record { joined = cut.1; kind = record { no_tag = o.no_tag; match = whole } })
