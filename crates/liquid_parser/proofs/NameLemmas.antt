-- Chains that are a name alone.
use Rattle.std.proofs.Common.{◌≡◌, ℕ, List, [], ◌∷◌, Some, Ok}
use Rattle.liquid_error.specs.meaning.Refusal.{ok_then}
use Rattle.liquid_grammar.specs.meaning.Kinds.{chain_kind, identifier_of}
use Rattle.liquid_grammar.specs.meaning.Tokens as token
use Rattle.liquid_grammar.specs.meaning.Values.{Value, literal_value, variable_value, no_index, more_indexes}
use Rattle.liquid_scalar.specs.meaning.Scalar.{text}
use Rattle.liquid_plugins.specs.meaning.Chain.{ChainShape}
use Rattle.liquid_plugins.specs.meaning.Expression.{variable, no_indexes}
use Rattle.liquid_parser.specs.meaning.Handed.{expression_meant}
use Rattle.liquid_parser.specs.meaning.Lang.{Filters}
use Rattle.liquid_parser.specs.meaning.Reading.{filters_read, chain_read}

module _ {F : Type 0} (filters : Filters F) (source name : List ℕ) where
  parts_of_name : (value : Value) (fs : List token.Filter) → Some name ≡ identifier_of (chain_kind value fs)
      → ok_then {B = ChainShape F} (filters_read filters source fs)
      (λ xs. Ok (record { entry = expression_meant value; filters = xs })) ≡ Ok
      (record { entry = variable (text name) no_indexes; filters = [] })
  parts_of_name (variable_value place following own no_index) [] is = cc
  parts_of_name (variable_value place following own (more_indexes i more)) [] is = cc
  parts_of_name (literal_value place following l) [] is = cc
  parts_of_name value (f ∷ fs) is = cc

  -- such a chain is read as the variable of its name
  pub name_read : (c : token.Chain) → Some name ≡ identifier_of (chain_kind c.what.0 c.what.1)
      → chain_read filters source c ≡ Ok (record { entry = variable (text name) no_indexes; filters = [] })
  name_read c is = parts_of_name c.what.0 c.what.1 is
