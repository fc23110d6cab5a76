-- Entries of maps by the bytes of their names.
use Rattle.std.specs.Prelude.{ℕ, List, String, string_bytes}
use Rattle.std.specs.declared.alloc.Global.{Global}
use Rattle.serde_json.specs.Data.{Data}
use Rattle.serde_json.specs.declared.value.Value.{Value as Json}
use Rattle.serde_json.specs.View.{view as json_view}
use Rattle.liquid_value.specs.declared.value.Value.{Value}
use Rattle.liquid_value.specs.meaning.View.{view}
use Rattle.liquid_json.specs.meaning.Shown.{value_shown}

-- a name and the JSON of an entry
abbrev pub json_entry : String Global × Json → List ℕ × Data
json_entry e = (string_bytes e.0, json_view e.1)

-- a name and the JSON that an entry's value is shown as
abbrev pub shown_entry : String Global × Value → List ℕ × Data
shown_entry e = (string_bytes e.0, value_shown (view e.1))
