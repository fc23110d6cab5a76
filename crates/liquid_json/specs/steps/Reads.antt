-- What has been read from the tokens of a JSON text, once it is a value.
use Rattle.std.specs.Prelude.{◌≡◌, List, Option, Some, Ok}
use Rattle.json.specs.Json as json
use Rattle.json.specs.Token.{Token}
use Rattle.serde_json.specs.Data as read
use Rattle.serde_json.specs.Read.{of_json, of_items, of_members}
use Rattle.liquid_value.specs.meaning.Tree.{Tree, Items, Members}
use Rattle.liquid_json.specs.meaning.Given.{value_given, items_given, members_given}

-- the JSON gives the value t
abbrev pub IsGiven : json.Json → Tree → Type 0
IsGiven j t = (d : read.Data) × (of_json j ≡ Some d) × (value_given d ≡ Ok t)

abbrev pub AreGiven : json.Items → Items → Type 0
AreGiven js ts = (ds : read.Items) × (of_items js ≡ Some ds) × (items_given ds ≡ Ok ts)

-- members put into an object one after another give these
abbrev pub MembersGiven : json.Members → Members → Type 0
MembersGiven ms ts = (ds : read.Members) × (of_members ms read.no_members ≡ Some ds) × (members_given ds ≡ Ok ts)

-- JSON was found that gives the value t, and the tokens left are those after it
abbrev pub Reads : Option (json.Json × List Token) → Tree → List Token → Type 0
Reads found t left = (j : json.Json) × (found ≡ Some (j, left)) × IsGiven j t

abbrev pub ReadsItems : Option (json.Items × List Token) → Items → List Token → Type 0
ReadsItems found ts left = (js : json.Items) × (found ≡ Some (js, left)) × AreGiven js ts

abbrev pub ReadsMembers : Option (json.Members × List Token) → Members → List Token → Type 0
ReadsMembers found ts left = (ms : json.Members) × (found ≡ Some (ms, left)) × MembersGiven ms ts
