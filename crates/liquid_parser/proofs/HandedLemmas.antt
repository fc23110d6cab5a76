-- The first token of a tag, as the cursor returns it.
use Rattle.std.proofs.Common.{◌≡◌, ℕ, List, ◌∷◌, ◌++◌, map, Some, None, Ok, Err, refl, sym, ap, ◌∙◌, subst}
use Rattle.std.specs.Prelude.{ok_or}
use Rattle.liquid_error.specs.meaning.Refusal.{located}
use Rattle.liquid_grammar.specs.declared.parts.TokenText.{TokenText}
use Rattle.liquid_grammar.specs.declared.parts.TokenParts.{TokenParts}
use Rattle.liquid_grammar.specs.declared.parts.TokenParts.TheVariants as parts
use Rattle.liquid_grammar.specs.meaning.Faults.{token_fault, first_fault}
use Rattle.liquid_grammar.specs.meaning.Grammar.{White}
use Rattle.liquid_grammar.specs.meaning.Parts as part
use Rattle.liquid_grammar.specs.meaning.Parts.{First, HasParts}
use Rattle.liquid_grammar.specs.meaning.Rules.{Repeated, more, ◌▷◌}
use Rattle.liquid_grammar.specs.meaning.Tokens as token
use Rattle.liquid_grammar.specs.meaning.Tokens.{range, chain, symbol, TokenRule}
use Rattle.liquid_parser.specs.declared.cursor.token.TagToken.{TagToken}
use Rattle.liquid_parser.specs.declared.cursor.tokens.TagTokenIter.{TagTokenIter}
use Rattle.liquid_parser.specs.meaning.Cursors.{IsToken, IsHandedOut}
use Rattle.liquid_parser.specs.meaning.Handed.{Token, Tokens, handed, handed_token, place_in, slice_between, expect_next, first_of, next}
use Rattle.liquid_parser.specs.meaning.Plugins.{AreTokens}
use Rattle.liquid_parser.proofs.Indexes.{first_none, second_none}
use Rattle.liquid_parser.proofs.TokenLemmas.{place_of, after_of, handed_after, handed_text, rule_place, rule_after}

-- a token is at the place that its parts give
parts_place : (p : TokenParts) (s rest : List ℕ) (t : token.Token) → HasParts p s rest t → place_of t ≡ s
unfolding place_of
parts_place (parts.Range start stop) s rest t h = ap place_of h.is
parts_place (parts.Chain kind) s rest t h = ap place_of h.is ∙ h.match.begins
parts_place (parts.Symbol text) s rest t h = ap place_of h

parts_after : (p : TokenParts) (s rest : List ℕ) (t : token.Token) → HasParts p s rest t → after_of t ≡ rest
unfolding after_of
parts_after (parts.Range start stop) s rest t h = ap after_of h.is
parts_after (parts.Chain kind) s rest t h = ap after_of h.is ∙ h.match.ends
parts_after (parts.Symbol text) s rest t h = ap after_of h

-- the first token by its own rule, at its own places
first_rule : {s rest : List ℕ} {t : token.Token} {ts : List token.Token} → Repeated (White ▷ TokenRule) s rest (t ∷ ts)
    → TokenRule (place_of t) (after_of t) t
first_rule {t = t} (more {middle = middle} m ms) =
    let rule : TokenRule m.match.middle middle t = subst (λ x. TokenRule m.match.middle middle x) (sym m.is) m.match.after in
    subst (λ p. TokenRule p (after_of t) t) (sym (rule_place rule)) (subst (λ p. TokenRule m.match.middle p t) (sym (rule_after rule)) rule)

pub cursor_tokens : (t : TagTokenIter) (ts : Tokens) (a : AreTokens t ts)
    → Repeated (White ▷ TokenRule) t.rest.now a.tag.1.following a.tag.1.what
cursor_tokens t ts a = subst (λ p. Repeated (White ▷ TokenRule) p a.tag.1.following a.tag.1.what) a.begins a.match

-- a token is returned
pub one_handed : (t : TagTokenIter) (ts : Tokens) (text : TokenText) → text.place.now ≡ text.text.now ++ text.rest.now
    → (a : AreTokens t ts) → First (part.IsToken text) (Repeated (White ▷ TokenRule)) a.tag.1.following a.tag.1.what
    → (given : Token × Tokens) × (next ts ≡ Some given) × IsHandedOut (record { source = t.source; text = text })
    (record { source = t.source; rest = text.rest }) given
one_handed t ts text cut a f =
    let source : List ℕ = t.source.now in
    let fine : first_fault token_fault (f.part ∷ f.others) ≡ None = ap (first_fault token_fault) (sym f.joined) ∙ a.fine in
    let has : HasParts text.parts text.place.now text.rest.now f.part =
    subst (λ p. HasParts text.parts text.place.now p f.part) (sym f.found.ends) f.found.has in
    let rule = first_rule (subst (λ xs. Repeated (White ▷ TokenRule) t.rest.now a.tag.1.following xs) f.joined (cursor_tokens t ts a)) in
    let at_place : TokenRule text.place.now (after_of f.part) f.part =
    subst (λ p. TokenRule p (after_of f.part) f.part) (parts_place text.parts _ _ f.part has) rule in
    let following : place_in source (after_of f.part) ≡ place_in source f.middle =
    ap (place_in source) (parts_after text.parts _ _ f.part f.found.has) in
    let token : Token = handed_token source f.part in
    let others : List Token = map (handed_token source) f.others in (
      (token, record { following = token.following; left = others }),
      ap (λ x. first_of (Tokens.left x)) a.is ∙ ap (λ xs. first_of (map (handed_token source) xs)) f.joined,
      record {
        token_is = record {
          matched = f.part;
          match = subst (λ p. TokenRule text.place.now p f.part) (parts_after text.parts _ _ f.part has) at_place;
          parts = has;
          cut = cut;
          fine = first_none _ _ fine;
          is = refl;
        };
        left = record {
          tag = (a.tag.0, record { place = f.middle; following = a.tag.1.following; what = f.others });
          begins = sym f.found.ends;
          match = f.then;
          fine = second_none _ _ fine;
          is = ap (λ p. record { following = p; left = others }) (handed_after source f.part ∙ following);
        };
      },
    )

-- the same for `expect_next`
pub or_handed : (message : List ℕ) (ts : Tokens) (given : Token × Tokens) → next ts ≡ Some given → expect_next message ts ≡ Ok given
or_handed message ts given e = ap (λ found. ok_or found (located message ts.following)) e

pub or_none : (message : List ℕ) (ts : Tokens) → next ts ≡ None → expect_next message ts ≡ Err (located message ts.following)
or_none message ts e = ap (λ found. ok_or found (located message ts.following)) e

-- the text and the place of a token
pub token_text : (t : TagToken) (handed : Token) → IsToken t handed → handed.text ≡ slice_between t.text.place.now t.text.rest.now
token_text t handed is =
    ap (λ x. Token.text x) is.is ∙ (handed_text t.source.now is.matched
    ∙ (ap (λ p. slice_between p (after_of is.matched)) (rule_place is.match) ∙ ap (slice_between t.text.place.now) (rule_after is.match)))
