-- What the next token is, by the readers that found its parts.
use Rattle.std.proofs.Common.{◌≡◌, ℕ, ◌-◌, List, ◌++◌, length, take, Option, Some, None, option_map, refl, sym, ap, ◌∙◌, subst}
use Rattle.std.proofs.lemmas.Option.{same_Some}
use Rattle.liquid_grammar.specs.declared.parts.TokenText.{TokenText}
use Rattle.liquid_grammar.specs.meaning.Rules.{Begins, Seen, At, here, instead, Repeated, ◌▷◌}
use Rattle.liquid_grammar.specs.meaning.Grammar.{White}
use Rattle.liquid_grammar.specs.meaning.Tokens.{Chain, Token, range, chain, symbol, RangeRule, ChainRule, SymbolRule, TokenRule}
use Rattle.liquid_grammar.specs.meaning.Faults.{Fault, value_fault, range_fault, chain_fault}
use Rattle.liquid_grammar.specs.meaning.Kinds.{Kind, chain_kind}
use Rattle.liquid_grammar.specs.meaning.Meanings.{scan}
use Rattle.liquid_grammar.specs.meaning.Parts.{NoneLeft, First, HasEnds, IsRangeToken, IsChainToken, HasParts, IsToken}
use Rattle.liquid_grammar.specs.steps.Steps.{both, right, left, white}
use Rattle.liquid_grammar.specs.steps.TokenSteps.{value, range_start, dots, range_end, ranged, chain_of, symbol_of}
use Rattle.liquid_grammar.proofs.Exact.{none_begins, front_of, before_end, leaves_end}
use Rattle.liquid_grammar.proofs.GrammarExact.{exact-white}
use Rattle.liquid_grammar.proofs.TokenExact.{exact-value, exact-range, exact-chain, exact-symbol, exact-token, exact-next_token}
use Rattle.liquid_grammar.proofs.ValueScan.{scan_some, scan_none}
use Rattle.liquid_grammar.proofs.Scanning.{both_some, right_some, left_found}
use Rattle.liquid_grammar.proofs.FlatBrackets.{left_some, left_none}
use Rattle.liquid_grammar.proofs.PartLemmas.{first_part, none_left, after_begins, none_after}

-- a range, by its parts
pub range_ends : (s r₀ r₁ r₂ r₃ r₄ : List ℕ) (g h : Option Fault) → Some r₀ ≡ option_map (λ p. p.1) (range_start s)
    → Some (g, r₁) ≡ scan value_fault (value r₀)
    → Some r₂ ≡ option_map (λ p. p.1) (dots r₁) → Some (h, r₃) ≡ scan value_fault (value r₂)
    → Some r₄ ≡ option_map (λ p. p.1) (range_end r₃) → HasEnds s r₄ r₀ r₂
unfolding ranged
range_ends s r₀ r₁ r₂ r₃ r₄ g h e₀ e₁ e₂ e₃ e₄ =
    let x₀ = left_some (range_start s) r₀ e₀ in
    let x₁ = scan_some value_fault (value r₀) g r₁ e₁ in
    let x₂ = left_some (dots r₁) r₂ e₂ in
    let x₃ = scan_some value_fault (value r₂) h r₃ e₃ in
    let x₄ = left_some (range_end r₃) r₄ e₄ in
    let first = left_found value dots r₀ x₁.0 x₂.0 x₁.1 (ap dots x₁.3 ∙ x₂.1) in
    let values = both_some (left value dots) value r₀ (x₁.0.0, x₂.0.1) x₃.0 first (ap value x₂.2 ∙ x₃.1) in
    let inner = right_some range_start (both (left value dots) value) s x₀.0 ((x₁.0.0, x₃.0.0), x₃.0.1) x₀.1
    (ap (both (left value dots) value) x₀.2 ∙ values) in
    let whole = left_found (right range_start (both (left value dots) value)) range_end s ((x₁.0.0, x₃.0.0), x₃.0.1) x₄.0 inner
    (ap range_end x₃.3 ∙ x₄.1) in
    record {
      values = (x₁.0.0, x₃.0.0);
      match = subst (λ t. RangeRule s t (x₁.0.0, x₃.0.0)) x₄.2 (exact-range.sound s x₄.0.1 (x₁.0.0, x₃.0.0) whole);
      first = record { rest = x₁.0.1; match = exact-value.sound r₀ x₁.0.1 x₁.0.0 x₁.1 };
      second = record { rest = x₃.0.1; match = exact-value.sound r₂ x₃.0.1 x₃.0.0 x₃.1 };
    }

-- a token that is a range
pub range_token : (s rest start stop : List ℕ) → HasEnds s rest start stop → (token : Token) × TokenRule s rest token
    × IsRangeToken s rest start stop token
range_token s rest start stop has =
    let token = range (record { place = s; following = rest; what = has.values }) in
    let m : TokenRule s rest token = here (record {
      from = record { place = s; following = rest; what = has.values };
      match =
          record { begins = refl; ends = refl; match = has.match };
      is = refl;
    }) in
    (token, m, record { values = has.values; is = refl; match = has.match; first = has.first; second = has.second })

no_range_token : (s : List ℕ) → None ≡ scan range_fault (ranged s) → ¬ (Begins (Seen range (At RangeRule)) s)
no_range_token s none b = none_begins exact-range s (scan_none range_fault (ranged s) none)
    (record { rest = b.rest; shape = b.match.from.what; match = b.match.match.match })

-- a token that is a chain
pub chain_token : (s rest : List ℕ) (k : Kind) (g : Option Fault) → None ≡ scan range_fault (ranged s)
    → Some k ≡ option_map (λ a. chain_kind a.0.what.0 a.0.what.1) (chain_of s) → Some (g, rest) ≡ scan chain_fault (chain_of s)
    → (token : Token) × TokenRule s rest token × IsChainToken k s rest token
chain_token s rest k g none e h =
    let x = scan_some chain_fault (chain_of s) g rest h in
    let c = x.0.0 in
    let found : ChainRule s rest c = subst (λ t. ChainRule s t c) x.3 (exact-chain.sound s x.0.1 c x.1) in
    let kind : k ≡ chain_kind c.what.0 c.what.1 =
    same_Some _ _ (e ∙ ap (option_map (λ (a : Chain × List ℕ). chain_kind a.0.what.0 a.0.what.1)) x.1) in
    let m : TokenRule s rest (chain c) = instead (no_range_token s none) (here (record { from = c; match = found; is = refl })) in
    (chain c, m, record { chain_here = c; is = refl; match = found; kind_is = kind })

no_chain_token : (s : List ℕ) → None ≡ scan chain_fault (chain_of s) → ¬ (Begins (Seen chain ChainRule) s)
no_chain_token s none b = none_begins exact-chain s (scan_none chain_fault (chain_of s) none)
    (record { rest = b.rest; shape = b.match.from; match = b.match.match })

-- and a token that is a symbol
pub symbol_ends : (s rest : List ℕ) → Some rest ≡ option_map (λ p. p.1) (symbol_of s) → s ≡ take (length s - length rest) s ++ rest
symbol_ends s rest e = before_end s rest (leaves_end exact-symbol s rest e)

symbol_text : (s rest text : List ℕ) → SymbolRule s rest text → take (length s - length rest) s ≡ text
symbol_text s rest text (here m) = front_of s text rest m.front
symbol_text s rest text (instead none m) = front_of s text rest m.front

pub symbol_token : (s rest text : List ℕ) → None ≡ scan range_fault (ranged s) → None ≡ scan chain_fault (chain_of s)
    → Some rest ≡ option_map (λ p. p.1) (symbol_of s) → text ≡ take (length s - length rest) s
    → (token : Token) × TokenRule s rest token × (token ≡ symbol (record { place = s; following = rest; what = text }))
symbol_token s rest text none chainless e is =
    let x = left_some (symbol_of s) rest e in
    let found : SymbolRule s rest x.0.0 = subst (λ t. SymbolRule s t x.0.0) x.2 (exact-symbol.sound s x.0.1 x.0.0 x.1) in
    let stands : SymbolRule s rest text = subst (λ t. SymbolRule s rest t) (sym (symbol_text s rest x.0.0 found) ∙ sym is) found in
    let token = symbol (record { place = s; following = rest; what = text }) in
    let m : TokenRule s rest token =
    instead (no_range_token s none) (instead (no_chain_token s chainless)
    (record {
      from = record { place = s; following = rest; what = text };
      match =
          record { begins = refl; ends = refl; match = stands };
      is = refl;
    }))
    in
    (token, m, refl)

pub no_token : (s : List ℕ) → None ≡ scan range_fault (ranged s) → None ≡ scan chain_fault (chain_of s)
    → None ≡ option_map (λ p. p.1) (symbol_of s) → ¬ (Begins TokenRule s)
no_token s none chainless symbolless b = go b.match
  where
    go : TokenRule s b.rest b.shape → ⊥
    go (here m) = no_range_token s none (record { rest = b.rest; shape = b.shape; match = m })
    go (instead _ (here m)) = no_chain_token s chainless (record { rest = b.rest; shape = b.shape; match = m })
    go (instead _ (instead _ m)) = none_begins exact-symbol s (left_none (symbol_of s) symbolless)
        (record { rest = b.rest; shape = m.from.what; match = m.match.match })

-- the tokens from here on begin with the one after the whitespace
pub no_token_first : (s place rest : List ℕ) (tokens : List Token) → Some place ≡ option_map (λ p. p.1) (white s)
    → ¬ (Begins TokenRule place) → Repeated (White ▷ TokenRule) s rest tokens → NoneLeft s rest tokens
no_token_first s place rest tokens e none m = none_left s rest tokens m (none_after exact-white s place e none)

pub token_first : (s : List ℕ) (t : TokenText) → Some t.place.now ≡ option_map (λ p. p.1) (white s)
    → (token : Token) × TokenRule t.place.now t.rest.now token × HasParts t.parts t.place.now t.rest.now token
    → (rest : List ℕ) (tokens : List Token) → Repeated (White ▷ TokenRule) s rest tokens
    → First (IsToken t) (Repeated (White ▷ TokenRule)) rest tokens
token_first s t e found rest tokens m =
    first_part exact-next_token (IsToken t) s t.rest.now rest found.0 tokens
    (after_begins exact-white s t.place.now t.rest.now found.0 e found.1)
    (record { ends = refl; has = found.2 })
    m

-- what a token takes is the beginning of the text
pub token_ends : (place rest : List ℕ) (token : Token) → TokenRule place rest token → place ≡ take (length place - length rest) place
    ++ rest
token_ends place rest token m = before_end place rest (exact-token.cuts place rest token m)

pub text_before : (place rest text : List ℕ) (token : Token) → TokenRule place rest token
    → text ≡ take (length place - length rest) place → place ≡ text ++ rest
text_before place rest text token m is = token_ends place rest token m ∙ ap (λ t. t ++ rest) (sym is)
