-- Slugs: texts as parts of a URL that people read.
use Rattle.std.specs.Prelude.{ℕ, List, chars, encode_utf8_all, flat_map}
use Rattle.std.specs.Str.{byte}
use Rattle.liquid_strings.specs.meaning.Cases.{lowercased}
use Rattle.liquid_jekyll.specs.declared.text.character_sets.CharacterSet.{CharacterSet}
use Rattle.liquid_jekyll.specs.declared.text.character_sets.CharacterSet.TheVariants.{BetweenAscii, BetweenPretty, BetweenWords, WhiteSpace}
use Rattle.liquid_jekyll.specs.declared.text.slugs.SlugMode.{SlugMode}
use Rattle.liquid_jekyll.specs.declared.text.slugs.SlugMode.TheVariants.{Raw, Default, Pretty, Ascii, Latin}
use Rattle.liquid_jekyll.specs.meaning.text.CharacterSets.{contains}
use Rattle.liquid_jekyll.specs.meaning.text.Latin.{ascii_of}
use Rattle.liquid_jekyll.specs.meaning.text.Runs.{with_runs_as, without_ends}

-- the characters that a slug does not keep
abbrev pub separators : SlugMode → CharacterSet
separators Raw = WhiteSpace
separators Default = BetweenWords
separators Pretty = BetweenPretty
separators Ascii = BetweenAscii
separators Latin = BetweenAscii

-- each run of these as one hyphen, without one at each end, in lower case
abbrev pub slug_of : SlugMode → List ℕ → List ℕ
slug_of mode text =
    lowercased (without_ends (byte "-") (encode_utf8_all (with_runs_as (contains (separators mode)) (byte "-") (chars text))))

-- the same, for one mode after Latin letters have become letters of ASCII
abbrev pub slug : SlugMode → List ℕ → List ℕ
slug Latin text = slug_of Latin (encode_utf8_all (flat_map ascii_of (chars text)))
slug mode text = slug_of mode text
