-- What filters that change the case of letters return.
use Rattle.std.specs.StrCase.Upper.{str_to_uppercase}
use Rattle.liquid_value.specs.meaning.Render.{render}
use Rattle.liquid_value.specs.meaning.Tree.{Tree}
use Rattle.liquid_strings.specs.meaning.Cases as cases
use Rattle.liquid_filters.specs.meaning.string.Written.{written}

-- each character of the text in upper case
abbrev pub upcased : Tree → Tree
upcased input = written (str_to_uppercase (render input))

-- each character of the text in lower case
abbrev pub downcased : Tree → Tree
downcased input = written (cases.lowercased (render input))

-- the first character of the text in upper case, the others in lower case
abbrev pub capitalized : Tree → Tree
capitalized input = written (cases.capitalized (render input))
