-- The first fault of literals and brackets, from left to right, and the number of an integer literal.
use Rattle.std.specs.Prelude.{ℕ, suc, ◌^◌, ◌==◌, ◌&&◌, ◌||◌, Bool, nat_lt, if◌then◌else◌, List, [], ◌∷◌, length, Option, Some, None, ℤ}
use Rattle.std.specs.Option.{option_or}
use Rattle.std.specs.Str.{all_ascii_digits}
use Rattle.std.specs.Str.Parse.{digits_value, without_leading_sign, starts_with_minus, signed_digits_value}
use Rattle.liquid_grammar.specs.meaning.Literals.{Literal, integer, decimal}
use Rattle.liquid_grammar.specs.meaning.Values.{
  Value,
  literal_value,
  variable_value,
  Index,
  named_index,
  bracketed_index,
  Indexes,
  no_index,
  more_indexes,
}
use Rattle.liquid_grammar.specs.meaning.Tokens.{Argument, positional, keyword, Filter, Chain, Tag, Token, range, chain, symbol}

pub data FaultKind : Type 0 where
  integer_out_of_range : FaultKind
  decimal_not_supported : FaultKind
  nested_too_deep : FaultKind

-- what is wrong, and the place where the literal or the bracket begins
abbrev pub Fault : Type 0
Fault = FaultKind × List ℕ

-- at least one digit, and nothing else
abbrev pub is_numeral : List ℕ → Bool
is_numeral digits = nat_lt 0 (length digits) && all_ascii_digits digits

-- an integer of 64 bits with a sign: its amount, and whether it is negative
abbrev pub fits_integer : Bool → ℕ → Bool
fits_integer negative amount = nat_lt amount (2 ^ 63) || (negative && amount == 2 ^ 63)

-- the number that a sign and digits write, if it fits
abbrev pub integer_of : List ℕ → Option ℤ
integer_of text =
    if is_numeral (without_leading_sign text) && fits_integer (starts_with_minus text) (digits_value 10 (without_leading_sign text))
    then Some (signed_digits_value 10 text) else None

abbrev pub integer_fault : Option ℤ → List ℕ → Option Fault
integer_fault (Some n) place = None
integer_fault None place = Some (integer_out_of_range, place)

abbrev pub literal_fault : List ℕ → Literal → Option Fault
literal_fault place (integer text) = integer_fault (integer_of text) place
literal_fault place (decimal text) = Some (decimal_not_supported, place)
literal_fault place _ = None

-- the greatest number of brackets that may be open at once
abbrev pub bracket_limit : ℕ
bracket_limit = 100

-- the fault of a bracket that opens inside this many open ones
abbrev pub deep_fault : ℕ → List ℕ → Option Fault
deep_fault depth place = if nat_lt depth bracket_limit then None else Some (nested_too_deep, place)

-- the first fault of a value inside this many open brackets
abbrev mutual
  pub fault_within : ℕ → Value → Option Fault
  fault_within depth (literal_value place following literal) = literal_fault place literal
  fault_within depth (variable_value place following name indexes) = indexes_fault depth indexes

  pub index_fault : ℕ → Index → Option Fault
  index_fault depth (named_index name) = None
  index_fault depth (bracketed_index place following value) =
      option_or (deep_fault depth place) (fault_within (suc depth) value)

  pub indexes_fault : ℕ → Indexes → Option Fault
  indexes_fault depth no_index = None
  indexes_fault depth (more_indexes index indexes) = option_or (index_fault depth index) (indexes_fault depth indexes)

abbrev pub value_fault : Value → Option Fault
value_fault = fault_within 0

-- the first fault of a list of parts
abbrev pub first_fault : {A : Type 0} → (A → Option Fault) → List A → Option Fault
first_fault f [] = None
first_fault f (x ∷ xs) = option_or (f x) (first_fault f xs)

abbrev pub argument_fault : Argument → Option Fault
argument_fault (positional value) = value_fault value
argument_fault (keyword name value) = value_fault value

abbrev pub filter_fault : Filter → Option Fault
filter_fault filter = first_fault argument_fault filter.what.1

abbrev pub chain_fault : Chain → Option Fault
chain_fault c = option_or (value_fault c.what.0) (first_fault filter_fault c.what.1)

abbrev pub range_fault : Value × Value → Option Fault
range_fault r = option_or (value_fault r.0) (value_fault r.1)

abbrev pub token_fault : Token → Option Fault
token_fault (range r) = range_fault r.what
token_fault (chain c) = chain_fault c
token_fault (symbol s) = None

abbrev pub tag_fault : Tag → Option Fault
tag_fault tag = first_fault token_fault tag.1.what
