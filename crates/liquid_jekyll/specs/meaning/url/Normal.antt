-- URLs in their normal form.
use Rattle.std.specs.Prelude.{ℕ, Bool, ◌==◌, ◌&&◌, ◌||◌, List, [], ◌++◌, Option, Some, None, codes, length, map, if◌then◌else◌}
use Rattle.std.specs.List.{join_by}
use Rattle.std.specs.Str.{bytes_eq}
use Rattle.liquid_strings.specs.meaning.Pieces.{pieces}
use Rattle.liquid_strings.specs.meaning.Replace.{replaced}
use Rattle.liquid_jekyll.specs.declared.url.parts.UrlPart.TheVariants.{Field, Fragment}
use Rattle.liquid_jekyll.specs.meaning.url.Authority.{lowercase, normal_authority}
use Rattle.liquid_jekyll.specs.meaning.url.Parting.{UrlForm, parted}
use Rattle.liquid_jekyll.specs.meaning.url.Parts.{cleaned}
use Rattle.liquid_jekyll.specs.meaning.url.Path.{normal_path}

-- the scheme in lower case; nothing without one
abbrev pub scheme_name : Option (List ℕ) → List ℕ
scheme_name None = []
scheme_name (Some scheme) = lowercase scheme

abbrev pub scheme_text : List ℕ → List ℕ
scheme_text scheme = if length scheme == 0 then [] else scheme ++ codes ":"

-- the authority after its mark
abbrev pub authority_text : List ℕ → Option (List ℕ) → List ℕ
authority_text scheme None = []
authority_text scheme (Some authority) = codes "//" ++ normal_authority scheme authority

-- whether an empty path means the root in a URL of this scheme
abbrev pub has_root : List ℕ → Bool
has_root scheme =
    bytes_eq scheme (codes "http") || (bytes_eq scheme (codes "https") || (bytes_eq scheme (codes "ftp") || bytes_eq scheme (codes "tftp")))

-- the path; in a URL of the web a slash for the empty one
abbrev pub path_text : List ℕ → List ℕ → List ℕ
path_text scheme path = if length (normal_path path) == 0 && has_root scheme then codes "/" else normal_path path

-- a field of a query, in which the escape of a plus sign stays
abbrev pub normal_field : List ℕ → List ℕ
normal_field field = join_by (λ t. t) (codes "%2B") (map (cleaned Field) (pieces (codes "%2B") field))

-- the fields of a query between `&`
abbrev pub normal_query : List ℕ → List ℕ
normal_query query = join_by (λ t. t) (codes "&") (map normal_field (pieces (codes "&") (replaced (codes "%2b") (codes "%2B") query)))

-- the query after its mark, unless it is empty
abbrev pub query_text : Option (List ℕ) → List ℕ
query_text None = []
query_text (Some query) = if length query == 0 then [] else codes "?" ++ normal_query query

-- the fragment after its mark, unless it is empty
abbrev pub fragment_text : Option (List ℕ) → List ℕ
fragment_text None = []
fragment_text (Some fragment) = if length fragment == 0 then [] else codes "#" ++ cleaned Fragment fragment

-- the parts one after another, each with its mark
abbrev pub url_text : UrlForm → List ℕ
url_text u =
    scheme_text (scheme_name u.scheme)
    ++ (authority_text (scheme_name u.scheme) u.authority
    ++ (path_text (scheme_name u.scheme) u.path ++ (query_text u.query ++ fragment_text u.fragment)))

-- the URL in its normal form
abbrev pub normal_url : List ℕ → List ℕ
normal_url text = url_text (parted text)
