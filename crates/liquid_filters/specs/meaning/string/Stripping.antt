-- What filters that cut whitespace off the ends of a string return.
use Rattle.std.specs.Str.{trim, trim_start, trim_end}
use Rattle.liquid_value.specs.meaning.Render.{render}
use Rattle.liquid_value.specs.meaning.Tree.{Tree}
use Rattle.liquid_filters.specs.meaning.string.Written.{written}

-- the text without whitespace at both ends
abbrev pub stripped : Tree → Tree
stripped input = written (trim (render input))

-- the text without whitespace at its start
abbrev pub left_stripped : Tree → Tree
left_stripped input = written (trim_start (render input))

-- the text without whitespace at its end
abbrev pub right_stripped : Tree → Tree
right_stripped input = written (trim_end (render input))
