-- The kind of a token, by its beginning.
use Rattle.std.proofs.Common.{◌≡◌, ℕ, List, [], ◌∷◌, Option, Some, None, option_map, option_and_then, MatchOption, refl, sym, ap, ◌∙◌}
use Rattle.std.proofs.lemmas.Option.{same_Some, none-some}
use Rattle.std.specs.Option.{option_or}
use Rattle.std.specs.Borrow.{Bor}
use Rattle.liquid_grammar.specs.meaning.Rules.{Placed, Begins}
use Rattle.liquid_grammar.specs.meaning.Literals.{Literal}
use Rattle.liquid_grammar.specs.meaning.Values.{Value, Index, placed_literal, placed_variable}
use Rattle.liquid_grammar.specs.meaning.Tokens.{Filter, Chain, Token, range, chain, symbol, ChainRule, TokenRule}
use Rattle.liquid_grammar.specs.meaning.Faults.{Fault, filter_fault, index_fault, range_fault}
use Rattle.liquid_grammar.specs.meaning.Kinds.{Kind, literal_kind, variable_kind, identifier_kind, filtered_kind, value_kind, chain_kind}
use Rattle.liquid_grammar.specs.declared.kind.TokenKind.{TokenKind}
use Rattle.liquid_grammar.specs.declared.kind.TokenKind.TheVariants.{Range, Symbol}
use Rattle.liquid_grammar.specs.declared.fault.Fault.{Fault as CodeFault}
use Rattle.liquid_grammar.specs.meaning.KindMeanings.{token_kind_of, HasKind, HasChainKind, FindsKind, FindsValueKind}
use Rattle.liquid_grammar.specs.meaning.Meanings.{scan, Scanned, scanned_of, Scans}
use Rattle.liquid_grammar.specs.steps.Steps.{Reader, name}
use Rattle.liquid_grammar.specs.steps.TokenSteps.{
  placed,
  repeated,
  following,
  literal,
  value,
  variable_over,
  filter,
  chain_of,
  ranged,
  symbol_of,
  token,
}
use Rattle.liquid_grammar.specs.steps.BracketSteps.{index, indexes}
use Rattle.liquid_grammar.proofs.ExactRepeated.{repeated_more, repeated_end, repeated_total}
use Rattle.liquid_grammar.proofs.TokenExact.{
  exact-value,
  exact-index,
  shrinks-index,
  exact-following,
  shrinks-following,
  exact-filter,
  exact-chain,
  exact-token,
}
use Rattle.liquid_grammar.proofs.ValueLaw.{value_reads}
use Rattle.liquid_grammar.proofs.ValueScan.{scan_some, scan_none, list_fault}
use Rattle.liquid_grammar.proofs.FlatBrackets.{left_some, left_none}
use Rattle.liquid_grammar.proofs.Scanning.{both_some, both_none}
use Rattle.liquid_grammar.proofs.Exact.{none_begins}

-- the kind of a value, and what follows it
abbrev KindFound : Type 0
KindFound = Kind × List ℕ

-- what a call returns for a value or a chain
abbrev pub Answered : Type 0
Answered = Option (TokenKind × Option CodeFault × Bor (List ℕ))

abbrev seen_kind : TokenKind × Bor (List ℕ) → KindFound
seen_kind p = (token_kind_of p.0, p.1.now)

abbrev kind_in : Option (Value × List ℕ) → Option KindFound
kind_in o = option_map (λ a. (value_kind a.0, a.1)) o

-- a literal
pub literal_is : (s rest : List ℕ) (l : Literal) → Some (l, rest) ≡ literal s → ◌≡◌ {A = Option KindFound} (Some (literal_kind l, rest))
    (kind_in (value s))
literal_is s rest l e =
    let make : Placed Literal × List ℕ → Value × List ℕ = λ a. (placed_literal a.0, a.1) in
    ap (λ o. kind_in (option_or (option_map make (option_map (placed s) o)) (variable_over value s))) e ∙ sym (ap kind_in (value_reads s))

abbrev variable_in : List ℕ → Option (List Index × List ℕ) → Option KindFound
variable_in n o = option_map (λ b. (value_kind (placed_variable (record { place = n; following = n; what = (n, b.0) })), b.1)) o

variable_shape : (s n : List ℕ) (o : Option (List Index × List ℕ))
    → let pair : List Index × List ℕ → (List ℕ × List Index) × List ℕ = λ b. ((n, b.0), b.1) in
    let make : Placed (List ℕ × List Index) × List ℕ → Value × List ℕ = λ a. (placed_variable a.0, a.1) in
    variable_in n o ≡ kind_in (option_map make (option_map (placed s) (option_map pair o)))
variable_shape s n (Some b) = refl
variable_shape s n None = refl

variable_kind_in : (s rest n : List ℕ) → None ≡ literal s → Some (n, rest) ≡ name s → variable_in n (indexes rest) ≡ kind_in (value s)
variable_kind_in s rest n none e =
    let make : Placed Literal × List ℕ → Value × List ℕ = λ a. (placed_literal a.0, a.1) in
    let make_variable : Placed (List ℕ × List Index) × List ℕ → Value × List ℕ = λ a. (placed_variable a.0, a.1) in
    let and_indexes : List ℕ × List ℕ → Option ((List ℕ × List Index) × List ℕ) = λ a. option_map (λ b. ((a.0, b.0), b.1)) (indexes a.1) in
    variable_shape s n (indexes rest)
    ∙ ap (λ o. kind_in (option_map make_variable (option_map (placed s) (option_and_then and_indexes o)))) e
    ∙ ap (λ o. kind_in (option_or (option_map make (option_map (placed s) o)) (variable_over value s))) none
    ∙ sym (ap kind_in (value_reads s))

-- a name without an index, and one with an index
pub identifier_is : (s rest n : List ℕ) → None ≡ literal s → Some (n, rest) ≡ name s → None ≡ scan (index_fault 0) (index rest)
    → ◌≡◌ {A = Option KindFound} (Some (identifier_kind n, rest)) (kind_in (value s))
identifier_is s rest n none e h = sym (ap (variable_in n) (repeated_end index rest (scan_none (index_fault 0) (index rest) h)))
    ∙ variable_kind_in s rest n none e

more_in : (n : List ℕ) (i : Index) (o : Option (List Index × List ℕ)) (x : List Index × List ℕ) → o ≡ Some x
    → let cons : List Index × List ℕ → List Index × List ℕ = λ b. (i ∷ b.0, b.1) in
    ◌≡◌ {A = Option KindFound} (variable_in n (option_map cons o)) (Some (variable_kind, x.1))
more_in n i (Some b) x e = let w : List Index × List ℕ → Option KindFound = λ b. Some (variable_kind, b.1) in ap w (same_Some _ _ e)
more_in n i None x e = absurd (none-some x e)

pub variable_is : (s rest after end n : List ℕ) (g h : Option Fault) → None ≡ literal s → Some (n, rest) ≡ name s
    → Some (g, after) ≡ scan (index_fault 0) (index rest) → Some (h, end) ≡ scan list_fault (indexes after)
    → ◌≡◌ {A = Option KindFound} (Some (variable_kind, end)) (kind_in (value s))
variable_is s rest after end n g h none e f found =
    let x = scan_some (index_fault 0) (index rest) g after f in
    let y = scan_some list_fault (indexes after) h end found in
    let w : List ℕ → Option KindFound = λ t. Some (variable_kind, t) in
    ap w (sym y.3)
    ∙ sym (ap (variable_in n) (repeated_more (exact-index exact-value) (shrinks-index exact-value) rest x.0 x.1)
    ∙ more_in n x.0.0 (indexes x.0.1) y.0 (ap indexes x.3 ∙ y.1))
    ∙ variable_kind_in s rest n none e

pub no_value : (s : List ℕ) → None ≡ literal s → None ≡ name s → None ≡ kind_in (value s)
no_value s none e =
    let make : Placed Literal × List ℕ → Value × List ℕ = λ a. (placed_literal a.0, a.1) in
    let make_variable : Placed (List ℕ × List Index) × List ℕ → Value × List ℕ = λ a. (placed_variable a.0, a.1) in
    let and_indexes : List ℕ × List ℕ → Option ((List ℕ × List Index) × List ℕ) = λ a. option_map (λ b. ((a.0, b.0), b.1)) (indexes a.1) in
    ap (λ o. kind_in (option_map make_variable (option_map (placed s) (option_and_then and_indexes o)))) e
    ∙ ap (λ o. kind_in (option_or (option_map make (option_map (placed s) o)) (variable_over value s))) none
    ∙ sym (ap kind_in (value_reads s))

abbrev chain_kind_in : Option (Chain × List ℕ) → Option Kind
chain_kind_in o = option_map (λ a. chain_kind a.0.what.0 a.0.what.1) o

abbrev next_filter : Reader Filter
next_filter = following 124 filter

chain_shape : (s : List ℕ) (x : Value × List ℕ) (y : List Filter × List ℕ) → value s ≡ Some x → repeated next_filter x.1 ≡ Some y
    → chain_kind_in (chain_of s) ≡ Some (chain_kind x.0 y.0)
unfolding chain_of
chain_shape s x y e h = ap (λ o. chain_kind_in (option_map (placed s) o)) (both_some value (repeated next_filter) s x y e h)

kind_found : (o : Option (Value × List ℕ)) (k : Kind) (rest : List ℕ) → ◌≡◌ {A = Option KindFound} (Some (k, rest)) (kind_in o)
    → (x : Value × List ℕ) × (o ≡ Some x) × (value_kind x.0 ≡ k) × (x.1 ≡ rest)
kind_found (Some x) k rest e = let q = same_Some _ _ e in (
  x,
  refl,
  sym (ap (λ (p : KindFound). p.0) q),
  sym (ap (λ (p : KindFound). p.1) q),
)
kind_found None k rest e = absurd (none-some _ (sym e))

no_kind_found : (o : Option (Value × List ℕ)) → None ≡ kind_in o → o ≡ None
no_kind_found (Some x) e = absurd (none-some _ e)
no_kind_found None e = refl

-- a value with filters, and one without
pub filtered_is : (s rest after : List ℕ) (k : Kind) (h : Option Fault) → ◌≡◌ {A = Option KindFound} (Some (k, rest)) (kind_in (value s))
    → Some (h, after) ≡ scan filter_fault (next_filter rest) → Some filtered_kind ≡ chain_kind_in (chain_of s)
filtered_is s rest after k h e f =
    let x = kind_found (value s) k rest e in
    let y = scan_some filter_fault (next_filter rest) h after f in
    let t = repeated_total next_filter y.0.1 in
    let cons : List Filter × List ℕ → List Filter × List ℕ = λ b. (y.0.0 ∷ b.0, b.1) in
    let all = repeated_more (exact-following 124 exact-filter) (shrinks-following 124 exact-filter) rest y.0 y.1
    ∙ ap (option_map cons) t.1 in
    sym (chain_shape s x.0 (y.0.0 ∷ t.0.0, t.0.1) x.1 (ap (repeated next_filter) x.3 ∙ all))

pub unfiltered_is : (s rest : List ℕ) (k : Kind) → ◌≡◌ {A = Option KindFound} (Some (k, rest)) (kind_in (value s))
    → None ≡ scan filter_fault (next_filter rest) → Some k ≡ chain_kind_in (chain_of s)
unfiltered_is s rest k e f =
    let x = kind_found (value s) k rest e in
    let end = repeated_end next_filter rest (scan_none filter_fault (next_filter rest) f) in
    ap (λ (k : Kind). Some k) (sym x.2) ∙ sym (chain_shape s x.0 ([], rest) x.1 (ap (repeated next_filter) x.3 ∙ end))

pub no_chain : (s : List ℕ) → None ≡ kind_in (value s) → None ≡ chain_kind_in (chain_of s)
unfolding chain_of
no_chain s e = sym (ap (λ o. chain_kind_in (option_map (placed s) o))
    (both_none value (repeated next_filter) s (no_kind_found (value s) e)))

-- the kind of the token that begins there
abbrev pub as_range : Placed (Value × Value) × List ℕ → Token × List ℕ
as_range a = (range a.0, a.1)

abbrev pub as_chain : Chain × List ℕ → Token × List ℕ
as_chain a = (chain a.0, a.1)

abbrev pub as_symbol : Placed (List ℕ) × List ℕ → Token × List ℕ
as_symbol a = (symbol a.0, a.1)

pub token_parts : (s : List ℕ) → token s ≡ option_or (option_map as_range (option_map (placed s) (ranged s)))
    (option_or (option_map as_chain (chain_of s)) (option_map as_symbol (option_map (placed s) (symbol_of s))))
unfolding token
token_parts s = refl

pub range_has_kind : (s rest : List ℕ) (g : Option Fault) → Some (g, rest) ≡ scan range_fault (ranged s) → HasKind s Range
range_has_kind s rest g e =
    let x = scan_some range_fault (ranged s) g rest e in
    let others = option_or (option_map as_chain (chain_of s)) (option_map as_symbol (option_map (placed s) (symbol_of s))) in
    let t = token_parts s ∙ ap (λ o. option_or (option_map as_range (option_map (placed s) o)) others) x.1 in
    record {
      rest = x.0.1;
      shape = range (record { place = s; following = x.0.1; what = x.0.0 });
      match =
          exact-token.sound s x.0.1 _ t;
      is = refl;
    }

kind_some : (o : Option (Chain × List ℕ)) (k : Kind) → Some k ≡ chain_kind_in o → (x : Chain × List ℕ) × (o ≡ Some x)
    × (k ≡ chain_kind x.0.what.0 x.0.what.1)
kind_some (Some x) k e = (x, refl, same_Some _ _ e)
kind_some None k e = absurd (none-some k (sym e))

kind_none : (o : Option (Chain × List ℕ)) → None ≡ chain_kind_in o → o ≡ None
kind_none (Some x) e = absurd (none-some _ e)
kind_none None e = refl

pub chain_has_kind : (s : List ℕ) (kind : TokenKind) → None ≡ scan range_fault (ranged s)
    → Some (token_kind_of kind) ≡ chain_kind_in (chain_of s) → HasKind s kind
chain_has_kind s kind none e =
    let x = kind_some (chain_of s) (token_kind_of kind) e in
    let symbols = option_map as_symbol (option_map (placed s) (symbol_of s)) in
    let t =
    token_parts s ∙ ap (λ o. option_or (option_map as_range (option_map (placed s) o))
    (option_or (option_map as_chain (chain_of s)) symbols)) (scan_none range_fault (ranged s) none)
    ∙ ap (λ o. option_or (option_map as_chain o) symbols) x.1
    in
    record { rest = x.0.1; shape = chain x.0.0; match = exact-token.sound s x.0.1 _ t; is = x.2 }

neither : (s : List ℕ) → None ≡ scan range_fault (ranged s) → None ≡ chain_kind_in (chain_of s)
    → token s ≡ option_map as_symbol (option_map (placed s) (symbol_of s))
neither s none e =
    let symbols = option_map as_symbol (option_map (placed s) (symbol_of s)) in
    token_parts s ∙ ap (λ o. option_or (option_map as_range (option_map (placed s) o))
    (option_or (option_map as_chain (chain_of s)) symbols)) (scan_none range_fault (ranged s) none)
    ∙ ap (λ o. option_or (option_map as_chain o) symbols) (kind_none (chain_of s) e)

pub symbol_has_kind : (s rest : List ℕ) → None ≡ scan range_fault (ranged s) → None ≡ chain_kind_in (chain_of s)
    → Some rest ≡ option_map (λ p. p.1) (symbol_of s) → HasKind s Symbol
symbol_has_kind s rest none e h =
    let x = left_some (symbol_of s) rest h in
    let t = neither s none e ∙ ap (λ o. option_map as_symbol (option_map (placed s) o)) x.1 in
    record {
      rest = x.0.1;
      shape = symbol (record { place = s; following = x.0.1; what = x.0.0 });
      match =
          exact-token.sound s x.0.1 _ t;
      is = refl;
    }

pub no_token : (s : List ℕ) → None ≡ scan range_fault (ranged s) → None ≡ chain_kind_in (chain_of s)
    → None ≡ option_map (λ p. p.1) (symbol_of s) → ¬ (Begins TokenRule s)
no_token s none e h = none_begins exact-token s (neither s none e ∙ ap (λ o. option_map as_symbol (option_map (placed s) o))
    (left_none (symbol_of s) h))

-- a public call's result, from what the reader found
pub chain_kind_found : (s : List ℕ) (r : Option TokenKind) → option_map token_kind_of r ≡ chain_kind_in (chain_of s)
    → MatchOption r (¬ (Begins ChainRule s)) (HasChainKind s)
chain_kind_found s None e = none_begins exact-chain s (kind_none (chain_of s) e)
chain_kind_found s (Some kind) e =
    let x = kind_some (chain_of s) (token_kind_of kind) e in
    record { rest = x.0.1; shape = x.0.0; match = exact-chain.sound s x.0.1 x.0.0 x.1; is = x.2 }

-- where nothing is found
pub nothing_kind : (s : List ℕ) (r : Answered) → r ≡ None → None ≡ literal s → None ≡ name s
    → FindsValueKind (option_map (λ p. (p.0, p.2)) r) (value s)
nothing_kind s r e none no_name =
    let seen : Answered → Option KindFound = λ r. option_map seen_kind (option_map (λ p. (p.0, p.2)) r) in
    ap seen e ∙ no_value s none no_name

pub nothing_scan : {A : Type 0} (fault : A → Option Fault) (found : Option (A × List ℕ)) (r : Answered) → r ≡ None
    → None ≡ scan fault found → Scans fault (option_map (λ p. (p.1, p.2)) r) found
nothing_scan fault found r e h =
    let seen : Answered → Option Scanned = λ r. option_map scanned_of (option_map (λ p. (p.1, p.2)) r) in
    ap seen e ∙ h

pub nothing_chain_kind : (s : List ℕ) (r : Answered) → r ≡ None → None ≡ kind_in (value s)
    → FindsKind (option_map (λ p. p.0) r) (chain_of s)
nothing_chain_kind s r e h =
    let seen : Answered → Option Kind = λ r. option_map token_kind_of (option_map (λ p. p.0) r) in
    ap seen e ∙ no_chain s h
