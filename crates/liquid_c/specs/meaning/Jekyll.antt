-- Texts that are as Jekyll's authors write them, as they are read.
use Rattle.std.specs.Prelude.{ℕ, List, if◌then◌else◌}
use Rattle.std.specs.Str.{is_utf8}
use Rattle.liquid_pages.specs.meaning.Shown.{NameAndText}
use Rattle.jekyll_source.specs.meaning.Pieces.{jekyll_text}

-- a text is read in this engine's grammar. Bytes that are not UTF-8 are no text, and stay
abbrev pub text_as_read : List ℕ → List ℕ
text_as_read bytes = if is_utf8 bytes then jekyll_text bytes else bytes

-- a partial keeps its name
abbrev pub partial_as_read : NameAndText → NameAndText
partial_as_read p = (p.0, text_as_read p.1)
