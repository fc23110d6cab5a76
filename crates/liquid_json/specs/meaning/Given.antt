-- The value of JSON, by recursion over the JSON: items in order, members in the order of their keys. The first refusal
-- is the result.
use Rattle.std.specs.Prelude.{ℕ, ℤ, List, pos, ◌^◌, nat_lt, codes, Option, Result, Ok, Err, option_map, if◌then◌else◌}
use Rattle.serde_json.specs.Data as json
use Rattle.serde_json.specs.Read.{read}
use Rattle.liquid_error.specs.meaning.Refusal.{Refusal, plain, ok_then}
use Rattle.liquid_scalar.specs.meaning.Scalar.{Scal, integer, boolean, text}
use Rattle.liquid_value.specs.meaning.Tree.{Tree, nil, scalar, array, object, Items, no_items, item, Members, no_members, member}

abbrev pub refused : {A : Type 0} → List ℕ → Result A Refusal
refused message = Err (plain message)

-- a signed integer of 64 bits is itself; one that needs the 64th bit does not fit; all others are kept as floats,
-- and are refused as fractional
abbrev pub number_given : json.Num → Result ℤ Refusal
number_given (json.unsigned n) = if nat_lt n (2 ^ 63) then Ok (pos n) else refused (codes "Cannot fit number")
number_given (json.negative n) = Ok n
number_given (json.float x) = refused (codes "Fractional number")

-- null is nil, and everything else is the value of its kind
abbrev mutual
  pub value_given : json.Data → Result Tree Refusal
  value_given json.null = Ok nil
  value_given (json.boolean b) = Ok (scalar (boolean b))
  value_given (json.number n) = ok_then (number_given n) (λ z. Ok (scalar (integer z)))
  value_given (json.string s) = Ok (scalar (text s))
  value_given (json.array ds) = ok_then (items_given ds) (λ ts. Ok (array ts))
  value_given (json.object ms) = ok_then (members_given ms) (λ ts. Ok (object ts))

  pub items_given : json.Items → Result Items Refusal
  items_given json.no_items = Ok no_items
  items_given (json.item d ds) = ok_then (value_given d) (λ t. ok_then (items_given ds) (λ ts. Ok (item t ts)))

  pub members_given : json.Members → Result Members Refusal
  members_given json.no_members = Ok no_members
  members_given (json.member key d ms) = ok_then (value_given d) (λ t. ok_then (members_given ms) (λ ts. Ok (member key t ts)))

-- only an object gives an object
abbrev pub object_given : json.Data → Result Members Refusal
object_given (json.object ms) = members_given ms
object_given (json.array ds) = refused (codes "Object cannot be an array.")
object_given other = refused (codes "Object cannot be a scalar.")

-- a boolean, a string and a number are scalars
abbrev pub scalar_given : json.Data → Result Scal Refusal
scalar_given json.null = refused (codes "Scalar must be a string.")
scalar_given (json.boolean b) = Ok (boolean b)
scalar_given (json.number n) = ok_then (number_given n) (λ z. Ok (integer z))
scalar_given (json.string s) = Ok (text s)
scalar_given (json.array ds) = refused (codes "Scalar must be a string.")
scalar_given (json.object ms) = refused (codes "Scalar must be a string.")

-- the object that a text gives, or its refusal; none if the text is not JSON
abbrev pub object_read : List ℕ → Option (Result Members Refusal)
object_read source = option_map object_given (read source)
