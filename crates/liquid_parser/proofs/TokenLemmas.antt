-- The first token of a tag.
use Rattle.std.proofs.Common.{◌≡◌, ℕ, List, [], ◌∷◌, map, Option, Some, None, Ok, Err, refl, sym, ap, ◌∙◌, subst}
use Rattle.std.proofs.lemmas.Option.{same_Some}
use Rattle.liquid_error.specs.meaning.Refusal.{located}
use Rattle.std.specs.Prelude.{codes, IfSome}
use Rattle.liquid_grammar.specs.meaning.Rules.{Begins, Repeated, ends, more, here, instead, ◌▷◌}
use Rattle.liquid_grammar.specs.meaning.Grammar.{White}
use Rattle.liquid_grammar.specs.steps.Steps as read
use Rattle.liquid_grammar.specs.meaning.Tokens.{Token, range, chain, symbol, TokenRule}
use Rattle.liquid_grammar.proofs.GrammarExact.{exact-white}
use Rattle.liquid_parser.specs.declared.cursor.tokens.TagTokenIter.{TagTokenIter}
use Rattle.liquid_parser.specs.meaning.Handed.{Tokens, handed_token, expect_nothing, none_left, place_in, slice_between}
use Rattle.liquid_parser.specs.meaning.Plugins.{AreTokens}

pub same_rest : (s a b v w : List ℕ) → White s a v → White s b w → a ≡ b
unfolding read.white
same_rest s a b v w m n =
    ap (λ (x : List ℕ × List ℕ). x.1) (same_Some _ _ (sym (exact-white.complete s a v m) ∙ exact-white.complete s b w n))

unfoldable pub place_of : Token → List ℕ
place_of (range r) = r.place
place_of (chain c) = c.place
place_of (symbol s) = s.place

unfoldable pub after_of : Token → List ℕ
after_of (range r) = r.following
after_of (chain c) = c.following
after_of (symbol s) = s.following

pub handed_place : (source : List ℕ) (t : Token) → (handed_token source t).place ≡ place_in source (place_of t)
unfolding place_of
handed_place source (range r) = refl
handed_place source (chain c) = refl
handed_place source (symbol s) = refl

pub handed_after : (source : List ℕ) (t : Token) → (handed_token source t).following ≡ place_in source (after_of t)
unfolding after_of
handed_after source (range r) = refl
handed_after source (chain c) = refl
handed_after source (symbol s) = refl

pub handed_text : (source : List ℕ) (t : Token) → (handed_token source t).text ≡ slice_between (place_of t) (after_of t)
unfolding place_of after_of
handed_text source (range r) = refl
handed_text source (chain c) = refl
handed_text source (symbol s) = refl

-- a token is at the place that its rule gives
pub rule_place : {s rest : List ℕ} {t : Token} → TokenRule s rest t → place_of t ≡ s
unfolding place_of
rule_place (here m) = ap place_of m.is ∙ m.match.begins
rule_place (instead none (here m)) = ap place_of m.is ∙ m.match.begins
rule_place (instead none (instead none' m)) = ap place_of m.is ∙ m.match.begins

pub rule_after : {s rest : List ℕ} {t : Token} → TokenRule s rest t → after_of t ≡ rest
unfolding after_of
rule_after (here m) = ap after_of m.is ∙ m.match.ends
rule_after (instead none (here m)) = ap after_of m.is ∙ m.match.ends
rule_after (instead none (instead none' m)) = ap after_of m.is ∙ m.match.ends

-- if no token begins after the whitespace, there are none
pub no_tokens : {s following rest white : List ℕ} {ts : List Token} → White s rest white → ¬ (Begins TokenRule rest)
    → Repeated (White ▷ TokenRule) s following ts → ts ≡ []
no_tokens w none (ends n) = refl
no_tokens {s = s} {rest = rest} {white = white} w none (more {middle = middle} {shape = shape} m ms) =
    let first : TokenRule m.match.middle middle m.from.1 = m.match.after in
    absurd (none (record {
      rest = middle;
      shape = m.from.1;
      match = subst (λ p. TokenRule p middle m.from.1)
          (same_rest s m.match.middle rest _ _ m.match.before w) first;
    }))

-- if one does, it is the first, and is refused if none is expected
pub some_token : {s following rest left white : List ℕ} {shape : Token} (ts : List Token) (source : List ℕ) → White s rest white
    → TokenRule rest left shape → Repeated (White ▷ TokenRule) s following ts
    → none_left (map (handed_token source) ts) ≡ Err (located (codes "Unexpected token") (place_in source rest))
some_token [] source w t (ends n) =
    absurd (n (record {
      rest = _;
      shape = _;
      match = record {
        from = (_, _);
        match = record { middle = _; before = w; after = t };
        is = refl;
      };
    }))
some_token {s = s} {rest = rest} (x ∷ ts) source w t (more {middle = middle} m ms) =
    let first : TokenRule m.match.middle middle m.from.1 = m.match.after in
    let at_rest : place_of x ≡ rest = ap place_of m.is ∙ (rule_place first ∙ same_rest s m.match.middle rest _ _ m.match.before w) in
    ap (λ p. Err (located (codes "Unexpected token") p)) (handed_place source x ∙ ap (place_in source) at_rest)

-- the same for a cursor
pub none_expected : (t : TagTokenIter) (ts : Tokens) (rest white : List ℕ) → AreTokens t ts → White t.rest.now rest white
    → ¬ (Begins TokenRule rest) → expect_nothing ts ≡ Ok tt
none_expected t ts rest white a w none =
    let tokens : Repeated (White ▷ TokenRule) t.rest.now a.tag.1.following a.tag.1.what =
    subst (λ p. Repeated (White ▷ TokenRule) p a.tag.1.following a.tag.1.what) a.begins a.match in
    ap (λ x. none_left (Tokens.left x)) a.is ∙ ap (λ ys. none_left (map (handed_token t.source.now) ys)) (no_tokens w none tokens)

pub one_expected : (t : TagTokenIter) (ts : Tokens) (rest left white : List ℕ) (shape : Token) → AreTokens t ts
    → White t.rest.now rest white → TokenRule rest left shape
    → expect_nothing ts ≡ Err (located (codes "Unexpected token") (place_in t.source.now rest))
one_expected t ts rest left white shape a w found =
    let tokens : Repeated (White ▷ TokenRule) t.rest.now a.tag.1.following a.tag.1.what =
    subst (λ p. Repeated (White ▷ TokenRule) p a.tag.1.following a.tag.1.what) a.begins a.match in
    ap (λ x. none_left (Tokens.left x)) a.is ∙ some_token a.tag.1.what t.source.now w found tokens

pub if_some_weaker : {A : Type 0} {P Q : A → Type 0} (o : Option A) → ((x : A) → P x → Q x) → IfSome o P → IfSome o Q
if_some_weaker None f h = tt
if_some_weaker (Some x) f h = f x h
