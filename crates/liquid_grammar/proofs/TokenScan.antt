-- The fault of a token, by the part that its first byte decides.
use Rattle.std.proofs.Common.{◌≡◌, ℕ, List, Option, Some, None, option_map, refl, sym, ap, ap₂, ◌∙◌}
use Rattle.std.specs.Option.{option_or}
use Rattle.liquid_grammar.specs.meaning.Values.{Value}
use Rattle.liquid_grammar.specs.meaning.Tokens.{Chain}
use Rattle.liquid_grammar.specs.meaning.Faults.{range_fault, chain_fault, token_fault}
use Rattle.liquid_grammar.specs.meaning.Meanings.{Scanned, scan}
use Rattle.liquid_grammar.specs.steps.TokenSteps.{placed, chain_of, ranged, symbol_of, token}
use Rattle.liquid_grammar.proofs.ValueScan.{scan_none}
use Rattle.liquid_grammar.proofs.KindLemmas.{as_range, as_chain, as_symbol, token_parts}

abbrev tokens_of : List ℕ → Option ((Value × Value) × List ℕ) → Option (Chain × List ℕ) → Option (List ℕ × List ℕ) → Option Scanned
tokens_of s ranges chains symbols =
    scan token_fault (option_or (option_map as_range (option_map (placed s) ranges))
    (option_or (option_map as_chain chains) (option_map as_symbol (option_map (placed s) symbols))))

token_of : (s : List ℕ) → tokens_of s (ranged s) (chain_of s) (symbol_of s) ≡ scan token_fault (token s)
token_of s = sym (ap (scan token_fault) (token_parts s))

range_shape : (s : List ℕ) (o : Option ((Value × Value) × List ℕ)) → scan range_fault o ≡ tokens_of s o None None
range_shape s (Some a) = refl
range_shape s None = refl

chain_shape : (s : List ℕ) (o : Option (Chain × List ℕ)) → scan chain_fault o ≡ tokens_of s None o None
chain_shape s (Some a) = refl
chain_shape s None = refl

symbol_shape : (s : List ℕ) (o : Option (List ℕ × List ℕ)) → option_map (λ t. (None, t)) (option_map (λ p. p.1) o) ≡ tokens_of s None None o
symbol_shape s (Some a) = refl
symbol_shape s None = refl

pub token_is_range : (s : List ℕ) (r : Option Scanned) → None ≡ scan chain_fault (chain_of s) → symbol_of s ≡ None
    → r ≡ scan range_fault (ranged s) → r ≡ scan token_fault (token s)
token_is_range s r chainless symbolless e =
    e ∙ range_shape s (ranged s) ∙ sym (ap₂ (tokens_of s (ranged s)) (scan_none chain_fault (chain_of s) chainless) symbolless) ∙ token_of s

pub token_is_chain : (s : List ℕ) (r : Option Scanned) → None ≡ scan range_fault (ranged s) → symbol_of s ≡ None
    → r ≡ scan chain_fault (chain_of s) → r ≡ scan token_fault (token s)
token_is_chain s r rangeless symbolless e =
    e ∙ chain_shape s (chain_of s) ∙ sym (ap₂ (λ a b. tokens_of s a (chain_of s) b)
    (scan_none range_fault (ranged s) rangeless) symbolless) ∙ token_of s

pub token_is_symbol : (s : List ℕ) (r : Option (List ℕ)) → None ≡ scan range_fault (ranged s) → None ≡ scan chain_fault (chain_of s)
    → r ≡ option_map (λ p. p.1) (symbol_of s) → ◌≡◌ {A = Option Scanned} (option_map (λ t. (None, t)) r) (scan token_fault (token s))
token_is_symbol s r rangeless chainless e =
    let faultless : Option (List ℕ) → Option Scanned = λ o. option_map (λ t. (None, t)) o in
    ap faultless e ∙ symbol_shape s (symbol_of s)
    ∙ sym (ap₂ (λ a b. tokens_of s a b (symbol_of s)) (scan_none range_fault (ranged s) rangeless)
    (scan_none chain_fault (chain_of s) chainless)) ∙ token_of s
