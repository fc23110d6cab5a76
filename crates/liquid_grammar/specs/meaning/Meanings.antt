-- What the literals and faults of the program mean, and how a call's result relates to what a reader finds.
use Rattle.std.specs.Prelude.{◌≡◌, ℕ, List, Option, option_map}
use Rattle.std.specs.Borrow.{Bor}
use Rattle.liquid_grammar.specs.declared.literal.Literal.{Literal as CodeLiteral}
use Rattle.liquid_grammar.specs.declared.literal.Literal.TheVariants.{Nil, Empty, Blank, Truth, Text, Integer, Decimal}
use Rattle.liquid_grammar.specs.declared.fault.FaultKind.{FaultKind as CodeFaultKind}
use Rattle.liquid_grammar.specs.declared.fault.FaultKind.TheVariants.{IntegerOutOfRange, DecimalNotSupported, NestedTooDeep}
use Rattle.liquid_grammar.specs.declared.fault.Fault.{Fault as CodeFault}
use Rattle.liquid_grammar.specs.meaning.Literals.{Literal, nil, empty, blank, truth, text_literal, integer, decimal}
use Rattle.liquid_grammar.specs.meaning.Tokens.{Tag, Chain}
use Rattle.liquid_grammar.specs.meaning.Faults.{
  tag_fault,
  chain_fault,
  FaultKind,
  integer_out_of_range,
  decimal_not_supported,
  nested_too_deep,
  Fault,
}

-- the literal with its text as bytes
abbrev pub literal_of : CodeLiteral → Literal
literal_of Nil = nil
literal_of Empty = empty
literal_of Blank = blank
literal_of (Truth b) = truth b
literal_of (Text text) = text_literal text.now
literal_of (Integer text) = integer text.now
literal_of (Decimal text) = decimal text.now

abbrev pub fault_kind_of : CodeFaultKind → FaultKind
fault_kind_of IntegerOutOfRange = integer_out_of_range
fault_kind_of DecimalNotSupported = decimal_not_supported
fault_kind_of NestedTooDeep = nested_too_deep

-- the fault with its place as bytes
abbrev pub fault_of : CodeFault → Fault
fault_of fault = (fault_kind_of fault.kind, fault.place.now)

abbrev pub faults_of : Option CodeFault → Option Fault
faults_of = option_map fault_of

-- a tag's name, where its tokens begin, its first fault, and what is left of the text
abbrev pub TagSeen : Type 0
TagSeen = List ℕ × List ℕ × Option Fault × List ℕ

abbrev pub tag_seen : Tag × List ℕ → TagSeen
tag_seen a = (a.0.0, a.0.1.place, tag_fault a.0, a.1)

abbrev pub tag_parts : TagSeen → TagSeen
tag_parts a = a

-- the result is what the reader found of a tag
abbrev pub SeesTag : Option (Bor (List ℕ) × Bor (List ℕ) × Option CodeFault × Bor (List ℕ)) → Option (Tag × List ℕ) → Type 0
SeesTag result found = option_map (λ p. tag_parts (p.0.now, p.1.now, faults_of p.2, p.3.now)) result ≡ option_map tag_seen found

-- where the chain of an expression begins, its first fault, and what is left of the text
abbrev pub ChainSeen : Type 0
ChainSeen = List ℕ × Option Fault × List ℕ

abbrev pub chain_seen : Chain × List ℕ → ChainSeen
chain_seen a = (a.0.place, chain_fault a.0, a.1)

abbrev pub chain_parts : ChainSeen → ChainSeen
chain_parts a = a

-- the result is what the reader found of an expression
abbrev pub SeesChain : Option (Bor (List ℕ) × Option CodeFault × Bor (List ℕ)) → Option (Chain × List ℕ) → Type 0
SeesChain result found = option_map (λ p. chain_parts (p.0.now, faults_of p.1, p.2.now)) result ≡ option_map chain_seen found

-- the result is the literal that the reader found
abbrev pub FindsLiteral : Option (CodeLiteral × Bor (List ℕ)) → Option (Literal × List ℕ) → Type 0
FindsLiteral result found = option_map (λ p. (literal_of p.0, p.1.now)) result ≡ found

-- a fault or none, and what is left of the text
abbrev pub Scanned : Type 0
Scanned = Option Fault × List ℕ

abbrev pub scanned_of : Option CodeFault × Bor (List ℕ) → Scanned
scanned_of p = (faults_of p.0, p.1.now)

-- the shape that was found, by its fault alone
abbrev pub scan : {A : Type 0} → (A → Option Fault) → Option (A × List ℕ) → Option Scanned
scan fault found = option_map (λ a. (fault a.0, a.1)) found

-- the result is the fault of the shape that the reader found, and the rest that the reader left
abbrev pub Scans : {A : Type 0} → (A → Option Fault) → Option (Option CodeFault × Bor (List ℕ)) → Option (A × List ℕ) → Type 0
Scans fault result found = option_map scanned_of result ≡ scan fault found
