-- What filters for HTML return.
use Rattle.liquid_value.specs.meaning.Render.{render}
use Rattle.liquid_value.specs.meaning.Tree.{Tree, nil}
use Rattle.liquid_strings.specs.meaning.Escape.{escaped, escaped_once}
use Rattle.liquid_strings.specs.meaning.Tags.{stripped}
use Rattle.liquid_filters.specs.meaning.string.Written.{written}

-- the text with entities for what means something in HTML; nil stays nil
abbrev pub html_escaped : Tree → Tree
html_escaped nil = nil
html_escaped input = written (escaped (render input))

-- the text with entities too, except for ampersands that begin one; nil has the empty string
abbrev pub html_escaped_once : Tree → Tree
html_escaped_once input = written (escaped_once (render input))

-- the text without scripts, comments and styles, and then without tags
abbrev pub without_tags : Tree → Tree
without_tags input = written (stripped (render input))
