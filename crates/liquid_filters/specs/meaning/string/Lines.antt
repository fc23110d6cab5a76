-- What filters on the ends of lines return.
use Rattle.std.specs.Prelude.{codes}
use Rattle.liquid_value.specs.meaning.Render.{render}
use Rattle.liquid_value.specs.meaning.Tree.{Tree}
use Rattle.liquid_strings.specs.meaning.Replace.{with_line_ends}
use Rattle.liquid_filters.specs.meaning.string.Written.{written}

-- the text with nothing in place of each end of a line
abbrev pub joined_lines : Tree → Tree
joined_lines input = written (with_line_ends (codes "") (render input))

-- the text with a line break of HTML and a line feed in place of each end of a line
abbrev pub marked_lines : Tree → Tree
marked_lines input = written (with_line_ends (codes "<br />\n") (render input))
