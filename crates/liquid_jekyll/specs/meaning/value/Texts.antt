-- What Jekyll's filters on strings return.
use Rattle.std.specs.Prelude.{ℕ, pos, List, [], ◌∷◌, Option, Some, None, Result, Ok, Err, codes, if◌then◌else◌}
use Rattle.std.specs.Str.{bytes_eq}
use Rattle.liquid_error.specs.meaning.Refusal.{Refusal}
use Rattle.liquid_scalar.specs.meaning.Scalar.{integer}
use Rattle.liquid_value.specs.meaning.Render.{render}
use Rattle.liquid_value.specs.meaning.Tree.{Tree, nil, scalar}
use Rattle.liquid_strings.specs.meaning.Cases.{lowercased}
use Rattle.liquid_filters.specs.meaning.string.Written.{written}
use Rattle.liquid_filters.specs.meaning.value.Errors.{unexpected_arguments}
use Rattle.liquid_jekyll.specs.declared.text.slugs.SlugMode.{SlugMode}
use Rattle.liquid_jekyll.specs.declared.text.slugs.SlugMode.TheVariants.{Ascii, Default, Latin, Pretty, Raw}
use Rattle.liquid_jekyll.specs.declared.text.words.WordMode.{WordMode}
use Rattle.liquid_jekyll.specs.declared.text.words.WordMode.TheVariants.{Auto, Mixed, Spaced}
use Rattle.liquid_jekyll.specs.meaning.text.Escape as escape
use Rattle.liquid_jekyll.specs.meaning.text.Index as index
use Rattle.liquid_jekyll.specs.meaning.text.Slugs.{slug}
use Rattle.liquid_jekyll.specs.meaning.text.Words as words
use Rattle.liquid_jekyll.specs.declared.url.parts.UrlPart.TheVariants.{Whole}
use Rattle.liquid_jekyll.specs.meaning.url.Parts.{cleaned}

-- the text with one space for each run of whitespace, and none at the ends
abbrev pub normalized : Tree → Tree
normalized input = written (words.normalized (render input))

-- the text with entities of XML
abbrev pub xml_escaped : Tree → Tree
xml_escaped input = written (escape.xml_escaped (render input))

-- the text as a URL, in one spelling; nil stays nil
abbrev pub uri_escaped : Tree → Tree
uri_escaped nil = nil
uri_escaped input = written (cleaned Whole (render input))

-- a string, or nil in place of the empty one
abbrev pub written_or_nil : List ℕ → Tree
written_or_nil [] = nil
written_or_nil (b ∷ bs) = written (index.index_stripped (b ∷ bs))

-- the text without the name of an index page; nil for the empty string
abbrev pub index_stripped : Tree → Tree
index_stripped input = written_or_nil (render input)

-- the mode of a slug that a string names
abbrev pub slug_mode : List ℕ → Option SlugMode
slug_mode name =
    if bytes_eq name (codes "default") then Some Default
    else if bytes_eq name (codes "raw") then Some Raw
    else if bytes_eq name (codes "pretty") then Some Pretty
    else if bytes_eq name (codes "ascii") then Some Ascii
    else if bytes_eq name (codes "latin") then Some Latin
    else None

-- the slug by a mode; any other name of one gives the text in lower case
abbrev pub slug_by : Option SlugMode → List ℕ → List ℕ
slug_by (Some mode) text = slug mode text
slug_by None text = lowercased text

-- the same for an input; nil stays nil
abbrev pub slugified_by : Option SlugMode → Tree → Tree
slugified_by mode nil = nil
slugified_by mode input = written (slug_by mode (render input))

-- the mode that an argument names; nil names the default one
abbrev pub slug_mode_of : Tree → Option SlugMode
slug_mode_of nil = Some Default
slug_mode_of name = slug_mode (render name)

abbrev pub slugified : Tree → List Tree → Result Tree Refusal
slugified input [] = Ok (slugified_by (Some Default) input)
slugified input (name ∷ []) = Ok (slugified_by (slug_mode_of name) input)
slugified input other = Err unexpected_arguments

-- what counts as a word by a name
abbrev pub word_mode : List ℕ → WordMode
word_mode name = if bytes_eq name (codes "cjk") then Mixed else if bytes_eq name (codes "auto") then Auto else Spaced

-- the number of words of the text
abbrev pub counted : WordMode → Tree → Tree
counted mode input = scalar (integer (pos (words.word_count mode (render input))))

abbrev pub words_counted : Tree → List Tree → Result Tree Refusal
words_counted input [] = Ok (counted Spaced input)
words_counted input (name ∷ []) = Ok (counted (word_mode (render name)) input)
words_counted input other = Err unexpected_arguments
