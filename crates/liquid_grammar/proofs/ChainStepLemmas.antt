-- What follows a value or a filter of an expression, and what a text that is not an expression is missing.
use Rattle.std.proofs.Common.{◌≡◌, ℕ, List, ◌∷◌, Some, None, option_map, refl, sym, ap, ◌∙◌, subst}
use Rattle.std.proofs.lemmas.Bool.{eqb-true}
use Rattle.liquid_grammar.specs.declared.parts.FilterStart.{FilterStart}
use Rattle.liquid_grammar.specs.meaning.Cover.{IsElement, invalid}
use Rattle.liquid_grammar.specs.meaning.Grammar.{White, Closer, Opens}
use Rattle.liquid_grammar.specs.meaning.Rules.{Rule, Begins, Repeated, Byte, ◌▷◌, here}
use Rattle.liquid_grammar.specs.meaning.Tokens.{Chain, Filter, Following, FilterRule, ChainRule, ExpressionRule}
use Rattle.liquid_grammar.specs.meaning.Values.{ValueRule}
use Rattle.liquid_grammar.specs.meaning.Parts.{First, IsFilter, OpensExpression, Unclosed}
use Rattle.liquid_grammar.specs.steps.Steps.{Reader, byte, white, identifier, closer}
use Rattle.liquid_grammar.specs.steps.TokenSteps.{separated}
use Rattle.liquid_grammar.proofs.CoverLemmas.{brace_begins}
use Rattle.liquid_grammar.proofs.Exact.{Exact, same_match, none_begins, exact-right, exact-byte}
use Rattle.liquid_grammar.proofs.ExpressionPartLemmas.{first_of, same_white}
use Rattle.liquid_grammar.proofs.FilterPartLemmas.{filter_first, none_following, no_filter_name}
use Rattle.liquid_grammar.proofs.FlatBrackets.{left_some, left_none}
use Rattle.liquid_grammar.proofs.GrammarExact.{exact-white, exact-opener, exact-closer}
use Rattle.liquid_grammar.proofs.PartLemmas.{none_left, none_after}
use Rattle.liquid_grammar.proofs.TokenExact.{exact-chain}

-- a reader's rest, as a match
found : {A : Type 0} {f : Reader A} {R : Rule A} → Exact f R → (s rest : List ℕ) → Some rest ≡ option_map (λ p. p.1) (f s) → (a : A)
    × R s rest a
found {f = f} {R = R} F s rest e =
    let x = left_some (f s) rest e in
    (x.0.0, subst (λ t. R s t x.0.0) x.2 (F.sound s x.0.1 x.0.0 x.1))

-- whitespace, a bar and whitespace
bar_between : (s at following place : List ℕ) → Some at ≡ option_map (λ p. p.1) (white s)
    → Some following ≡ option_map (λ p. p.1) (byte 124 at) → Some place ≡ option_map (λ p. p.1) (white following)
    → Some place ≡ option_map (λ p. p.1) (separated 124 s)
bar_between s at following place w b v =
    let before = found exact-white s at w in
    let bar = found (exact-byte 124) at following b in
    let after = found exact-white following place v in
    let front : (White ▷ Byte 124) s following bar.0 =
    record { from = (before.0, bar.0); match = record { middle = at; before = before.1; after = bar.1 }; is = refl } in
    let whole : (White ▷ Byte 124 ▷ White) s place after.0 =
    record { from = (bar.0, after.0); match = record { middle = following; before = front; after = after.1 }; is = refl } in
    sym (ap (option_map (λ p. p.1)) ((exact-right (exact-right exact-white (exact-byte 124)) exact-white).complete s place after.0 whole))

-- no expression ends where a bar is next
barred : (s at following : List ℕ) → Some at ≡ option_map (λ p. p.1) (white s) → Some following ≡ option_map (λ p. p.1) (byte 124 at)
    → ¬ (Begins (White ▷ Closer 125) s)
barred s at following w b c =
    let before = found exact-white s at w in
    let bar = found (exact-byte 124) at following b in
    let same = same_white s c.match.match.middle at _ _ c.match.match.before before.1 in
    first_of c.match.match.middle c.rest _ 124 following
    (same ∙ (bar.1.front ∙ ap (λ x. x ∷ following) (eqb-true _ 124 bar.1.passes))) refl refl c.match.match.after

pub nameless : (s at following place rest : List ℕ) (filters : List Filter) → Some at ≡ option_map (λ p. p.1) (white s)
    → Some following ≡ option_map (λ p. p.1) (byte 124 at) → Some place ≡ option_map (λ p. p.1) (white following)
    → None ≡ identifier place → Repeated (Following 124 FilterRule) s rest filters → Unclosed s rest filters
nameless s at following place rest filters w b v i m =
    record {
      none = none_left s rest filters m (none_following 124 s place (bar_between s at following place w b v)
          (no_filter_name place i));
      endless = barred s at following w b;
    }

-- no filter begins where no bar is next
pub barless : (s at : List ℕ) → Some at ≡ option_map (λ p. p.1) (white s) → None ≡ option_map (λ p. p.1) (byte 124 at)
    → ¬ (Begins (Following 124 FilterRule) s)
barless s at w b f =
    let before = found exact-white s at w in
    let separated = f.match.match.before.match.before in
    let same = same_white s separated.match.middle at _ _ separated.match.before before.1 in
    let bar = subst (λ t. Byte 124 t f.match.match.before.match.middle separated.from.1) same separated.match.after in
    none_begins (exact-byte 124) at (left_none (byte 124 at) b)
    (record { rest = f.match.match.before.match.middle; shape = separated.from.1; match = bar })

pub unclosed : (s at rest : List ℕ) (filters : List Filter) → Some at ≡ option_map (λ p. p.1) (white s)
    → None ≡ option_map (λ p. p.1) (byte 124 at) → None ≡ option_map (λ p. p.1) (closer 125 at)
    → Repeated (Following 124 FilterRule) s rest filters → Unclosed s rest filters
unclosed s at rest filters w b c m =
    record {
      none = none_left s rest filters m (barless s at w b);
      endless =
          none_after exact-white s at w (none_begins (exact-closer 125) at (left_none (closer 125 at) c));
    }

pub filter_next : (f : FilterStart) (s at following rest : List ℕ) (filters : List Filter) → Some at ≡ option_map (λ p. p.1) (white s)
    → Some following ≡ option_map (λ p. p.1) (byte 124 at) → Some f.place.now ≡ option_map (λ p. p.1) (white following)
    → Some (f.name.now, f.rest.now) ≡ identifier f.place.now → Repeated (Following 124 FilterRule) s rest filters
    → First (IsFilter f) (Repeated (Following 124 FilterRule)) rest filters
filter_next f s at following rest filters w b v i m = filter_first f s rest filters (bar_between s at following f.place.now w b v) i m

-- where an expression opens, its parts
start_of : (s start : List ℕ) → OpensExpression s start → (b : Begins ExpressionRule s)
    → b.match.match.before.match.before.match.middle ≡ start
start_of s start o b =
    ap (λ (x : List ℕ × List ℕ). x.1) (same_match
    (exact-right (exact-opener 123) exact-white) s _ start _ o.white b.match.match.before.match.before.match.before o.match)

-- there is no expression where no value follows its beginning
pub valueless : (s start : List ℕ) → OpensExpression s start → ¬ (Begins ValueRule start) → ¬ (Begins ExpressionRule s)
valueless s start o none b =
    let chain = b.match.match.before.match.before.match.after in
    let what = b.match.match.before.match.before.from.1.what in
    none (record {
      rest = chain.match.middle;
      shape = what.0;
      match = subst (λ t. ValueRule t chain.match.middle what.0)
          (start_of s start o b) chain.match.before;
    })

-- there is no expression where its chain is not followed by an end
pub endless : (s start end : List ℕ) (c : Chain) → OpensExpression s start → ChainRule start end c → ¬ (Begins (White ▷ Closer 125) end)
    → ¬ (Begins ExpressionRule s)
endless s start end c o m none b =
    let inside = b.match.match.before in
    let shape = inside.match.before.from.1 in
    let chain = subst (λ t. ChainRule t inside.match.middle shape) (start_of s start o b) inside.match.before.match.after in
    let same = ap (λ (x : Chain × List ℕ). x.1) (same_match exact-chain start inside.match.middle end shape c chain m) in
    none (subst (λ t. Begins (White ▷ Closer 125) t) same
    (record {
      rest = b.rest;
      shape = b.match.from.1;
      match =
          record {
            from = (inside.from.1, b.match.from.1);
            match =
                record { middle = b.match.match.middle; before = inside.match.after; after = b.match.match.after };
            is = refl;
          };
    }))

-- where an expression opens but there is none, the element is the whitespace and one brace
pub opens_invalid : (s start : List ℕ) → OpensExpression s start → ¬ (Begins ExpressionRule s) → (following text : List ℕ)
    × IsElement s following (invalid text)
opens_invalid s start o none =
    let opens : Opens s = record { rest = o.match.match.middle; shape = o.match.from.0; match = here o.match.match.before } in
    let brace = brace_begins s opens in (
      brace.rest,
      brace.shape,
      record {
        joined = brace.match.front;
        kind =
            record { opens = opens; no_tag = o.no_tag; no_expression = none; brace = brace.match };
      },
    )
