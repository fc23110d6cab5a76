-- What Jekyll's filters that write JSON return.
use Rattle.liquid_value.specs.meaning.Tree.{Tree}
use Rattle.liquid_filters.specs.meaning.Json.{as_json}
use Rattle.liquid_jekyll.specs.meaning.value.Texts.{xml_escaped}

-- the input as JSON, with entities of XML
abbrev pub inspected : Tree → Tree
inspected input = xml_escaped (as_json input)
