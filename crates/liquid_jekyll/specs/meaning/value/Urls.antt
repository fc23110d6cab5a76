-- What Jekyll's filters on URLs return.
use Rattle.std.specs.Prelude.{ℕ, List, codes, unwrap_or, if◌then◌else◌}
use Rattle.liquid_value.specs.meaning.Members.{get_member}
use Rattle.liquid_value.specs.meaning.Parts.{is_nil}
use Rattle.liquid_value.specs.meaning.Render.{render}
use Rattle.liquid_value.specs.meaning.Tree.{Tree, nil, object}
use Rattle.liquid_filters.specs.meaning.string.Written.{written}
use Rattle.liquid_jekyll.specs.meaning.url.Sites as site

-- the value whose text is a URL: an object's member `url`, if it has one, and otherwise the input
abbrev pub url_value : Tree → Tree
url_value (object ms) = unwrap_or (get_member (codes "url") ms) (object ms)
url_value input = input

-- a path of the site that begins at a path; nil stays nil
abbrev pub relative_url : List ℕ → Tree → Tree
relative_url base input = if is_nil input then nil else written (site.relative_url base (render (url_value input)))

-- the same with the URL of the site
abbrev pub absolute_url : List ℕ → List ℕ → Tree → Tree
absolute_url url base input =
    if is_nil input then nil else written (site.absolute_url url base (render (url_value input)))
