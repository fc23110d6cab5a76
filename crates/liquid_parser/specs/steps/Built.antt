-- How the results of builders relate to what was matched.
use Rattle.std.specs.Prelude.{◌≡◌, ◌<◌, ℕ, List, Option, Some, None, Result, Ok, Err, IfOk, IfSome}
use Rattle.std.specs.Borrow.{Bor}
use Rattle.liquid_error.specs.declared.error.Error.{Error}
use Rattle.liquid_error.specs.meaning.Refusal.{Refusal}
use Rattle.liquid_error.specs.meaning.Told.{told}
use Rattle.liquid_grammar.specs.meaning.Bytes.{bar, close_brace}
use Rattle.liquid_grammar.specs.meaning.Cover.{IsElement, expression, invalid}
use Rattle.liquid_grammar.specs.meaning.Faults.{Fault, chain_fault}
use Rattle.liquid_grammar.specs.meaning.Grammar.{White, Closer}
use Rattle.liquid_grammar.specs.declared.head.Head.{Head}
use Rattle.liquid_grammar.specs.meaning.Parts.{ClosesExpression, IsHead}
use Rattle.liquid_grammar.specs.meaning.Rules.{Begins, Repeated, Rule, ◌▷◌}
use Rattle.liquid_grammar.specs.meaning.Tokens.{Following, Chain, Filter, FilterRule}
use Rattle.liquid_grammar.specs.meaning.Values.{CloseBracket}
use Rattle.liquid_plugins.specs.declared.tree.Node.{Node}
use Rattle.liquid_plugins.specs.meaning.Nodes.{NodeShape}
use Rattle.liquid_plugins.specs.meaning.NodesOf.{node_of}
use Rattle.liquid_parser.specs.declared.chain.fast_path.Walked.{Walked}
use Rattle.liquid_parser.specs.declared.chain.fast_path.Walked.TheVariants.{Whole, NoExpression, Undecided}
use Rattle.liquid_parser.specs.meaning.Lang.{Filters}
use Rattle.liquid_parser.specs.meaning.Reading.{expression_read}

-- nothing was built if there is a fault; otherwise what was built is this, and it leaves this rest
abbrev pub BuiltUnless : {A M : Type 0} → Option Fault → (A → M) → Option (A × Bor (List ℕ)) → M → List ℕ → Type 0
BuiltUnless fault of None meant rest = ¬ (fault ≡ None)
BuiltUnless fault of (Some found) meant rest = (fault ≡ None) × (of found.0 ≡ meant) × (found.1.now ≡ rest)

-- the same for a call; an out-of-memory error says nothing
abbrev pub Builds : {A M E : Type 0} → Option Fault → (A → M) → Result (Option (A × Bor (List ℕ))) E → M → List ℕ → Type 0
Builds fault of result meant rest = IfOk result (λ found. BuiltUnless fault of found meant rest)

-- inside brackets, one closes here
abbrev pub ClosesInside : ℕ → List ℕ → Type 0
ClosesInside depth rest = 0 < depth → Begins CloseBracket rest

-- there is no fault, what was made is what the reading makes, and it leaves this rest
abbrev pub Made : {A M : Type 0} → Option Fault → (A → M) → A × Bor (List ℕ) → Result M Refusal → List ℕ → Type 0
Made fault of found read rest = (fault ≡ None) × (read ≡ Ok (of found.0)) × (found.1.now ≡ rest)

-- the same up to the end of an expression, which comes after this rest
abbrev pub MadeToEnd : {A M : Type 0} → Option Fault → (A → M) → A × Bor (List ℕ) → Result M Refusal → List ℕ → Type 0
MadeToEnd fault of found read rest = (fault ≡ None) × (read ≡ Ok (of found.0)) × ClosesExpression rest found.1.now

-- what was read whole satisfies the first; if there is no expression, the second holds; what is undecided says nothing
abbrev pub ComesTo : {A : Type 0} → Walked A → (A → Type 0) → Type 0 → Type 0
ComesTo (Whole found) is lacks = is found
ComesTo NoExpression is lacks = lacks
ComesTo Undecided is lacks = Unit

-- no expression ends here, after whitespace or none
abbrev pub Endless : List ℕ → Type 0
Endless s = ¬ (Begins (White ▷ Closer close_brace) s)

-- an opener is here, and neither a tag nor an expression
abbrev pub StandsInvalid : List ℕ → Type 0
StandsInvalid s = (following text : List ℕ) × IsElement s following (invalid text)

-- an expression without a fault is here, and is read as this node
pub record MakesNode {F T B : Type 0} (filters : Filters F) (source s rest : List ℕ) (node : NodeShape F T B) : Type 0 where
  pub chain : Chain
  pub text : List ℕ
  pub stands : IsElement s rest (expression chain text)
  pub fine : chain_fault chain ≡ None
  pub read : expression_read filters source chain ≡ Ok node

-- the walk comes to this node, unless what opens here is neither a tag nor an expression
abbrev pub WalksToNode : {X N K E F T B : Type 0} → (X → F) → (N → T) → (K → B) → Filters F → (source s : List ℕ)
    → Result (Walked (Node X N K × Bor (List ℕ))) E → Type 0
WalksToNode filter tag block filters source s result =
    IfOk result (λ walked. ComesTo walked (λ p. MakesNode filters source s p.1.now (node_of filter tag block p.0)) (StandsInvalid s))

-- the walk comes to the end of an expression, after this rest, unless none ends there
abbrev pub WalksToEnd : {A M E : Type 0} → Option Fault → (A → M) → Result (Walked (A × Bor (List ℕ))) E → Result M Refusal → List ℕ
    → Type 0
WalksToEnd fault of result read rest = IfOk result (λ walked. ComesTo walked (λ p. MadeToEnd fault of p read rest) (Endless rest))

-- all filters after `|`
abbrev pub FiltersRule : Rule (List Filter)
FiltersRule = Repeated (Following bar FilterRule)

-- this holds of each chain whose value has this beginning, with this text after the beginning
abbrev pub IfHeaded : Head → List ℕ → (List ℕ → Chain → Type 0) → Type 0
IfHeaded head after holds =
    (place middle rest : List ℕ) (c : Chain) → IsHead place middle head after c.what.0 → FiltersRule middle rest c.what.1 → holds rest c

-- the call returns what is meant, and leaves this rest; an out-of-memory error says nothing
abbrev pub GivesUpTo : {A M : Type 0} → (A → M) → Result (A × Bor (List ℕ)) Error → Result M Refusal → List ℕ → Type 0
GivesUpTo of (Ok found) meant rest = (meant ≡ Ok (of found.0)) × (found.1.now ≡ rest)
GivesUpTo of (Err e) meant rest = IfSome (told e) (λ r. meant ≡ Err r)
