-- URLs of a site: a path after the site's own URL and the path that the site begins at.
use Rattle.std.specs.Prelude.{ℕ, Bool, false, ◌==◌, ◌&&◌, ◌||◌, List, [], ◌∷◌, ◌++◌, Option, Some, None, codes, length, if◌then◌else◌}
use Rattle.std.specs.Char.{is_ascii_alphabetic, is_ascii_alphanumeric}
use Rattle.std.specs.List.{list_all}
use Rattle.std.specs.Str.{byte}
use Rattle.liquid_jekyll.specs.meaning.text.Runs.{without_last}
use Rattle.liquid_jekyll.specs.meaning.url.Cuts.{cut}
use Rattle.liquid_jekyll.specs.meaning.url.Normal.{normal_url}
use Rattle.liquid_jekyll.specs.meaning.url.Parts.{is_of}

-- whether a string is the name of a scheme: a letter, and then letters, digits and `+-.`
abbrev pub is_in_schemes : ℕ → Bool
is_in_schemes b = is_ascii_alphanumeric b || is_of (codes "+-.") b

abbrev pub names_scheme : List ℕ → Bool
names_scheme [] = false
names_scheme (b ∷ bs) = is_ascii_alphabetic b && list_all is_in_schemes bs

-- whether a string has a scheme before its first colon
abbrev pub is_scheme_cut : List ℕ × Option (List ℕ) → Bool
is_scheme_cut (before, None) = false
is_scheme_cut (before, Some rest) = names_scheme before

abbrev pub has_scheme : List ℕ → Bool
has_scheme text = is_scheme_cut (cut (codes ":") text)

-- the text after a slash, unless it is empty or begins with one
abbrev pub slashed : List ℕ → List ℕ
slashed [] = []
slashed (b ∷ bs) = if b == byte "/" then b ∷ bs else byte "/" ∷ b ∷ bs

-- a string as a path of the site, after the path that the site begins at; a string with a scheme stays
abbrev pub relative_url : List ℕ → List ℕ → List ℕ
relative_url base text = if has_scheme text then text else normal_url (slashed (without_last (byte "/") base) ++ slashed text)

-- the same after the URL of the site, if there is one
abbrev pub absolute_url : List ℕ → List ℕ → List ℕ → List ℕ
absolute_url site base text =
    if has_scheme text || length site == 0 then relative_url base text else normal_url (site ++ relative_url base text)
