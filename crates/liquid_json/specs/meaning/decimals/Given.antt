-- The value of JSON with decimals, by recursion over the JSON, in the order of its text. The first refusal is the result.
use Rattle.std.specs.Prelude.{ℕ, List, codes, Option, Result, Ok, Err, option_map, option_and_then}
use Rattle.json.specs.Json as json
use Rattle.json.specs.Lex.{tokens}
use Rattle.liquid_error.specs.meaning.Refusal.{Refusal, plain, ok_then}
use Rattle.liquid_scalar.specs.meaning.Scalar.{boolean, text}
use Rattle.liquid_value.specs.meaning.Members.{put_member}
use Rattle.liquid_value.specs.meaning.Tree.{Tree, nil, scalar, array, object, Items, no_items, item, Members, no_members}
use Rattle.liquid_json.specs.meaning.decimals.Number.{number_given}

-- null is nil, and everything else is the value of its kind
abbrev mutual
  pub value_given : json.Json → Result Tree Refusal
  value_given json.null = Ok nil
  value_given (json.boolean b) = Ok (scalar (boolean b))
  value_given (json.number s) = number_given s
  value_given (json.string s) = Ok (scalar (text s))
  value_given (json.array js) = ok_then (items_given js) (λ ts. Ok (array ts))
  value_given (json.object ms) = ok_then (members_given ms no_members) (λ ts. Ok (object ts))

  pub items_given : json.Items → Result Items Refusal
  items_given json.no_items = Ok no_items
  items_given (json.item j js) = ok_then (value_given j) (λ t. ok_then (items_given js) (λ ts. Ok (item t ts)))

  -- the members are put into those before them, so the last value of a name stays
  pub members_given : json.Members → Members → Result Members Refusal
  members_given json.no_members found = Ok found
  members_given (json.member key j ms) found = ok_then (value_given j) (λ t. members_given ms (put_member key t found))

-- only an object gives an object
abbrev pub object_given : json.Json → Result Members Refusal
object_given (json.object ms) = members_given ms no_members
object_given (json.array js) = Err (plain (codes "Object cannot be an array."))
object_given other = Err (plain (codes "Object cannot be a scalar."))

-- the JSON that a text is, with at most 127 nested arrays and objects, as `serde_json` has it
abbrev pub json_read : List ℕ → Option json.Json
json_read source = option_and_then (λ p. json.if_last p.0 p.1) (json.value 127 (tokens source))

-- the object that a text gives, or its refusal; none if the text is not JSON
abbrev pub object_read : List ℕ → Option (Result Members Refusal)
object_read source = option_map object_given (json_read source)
