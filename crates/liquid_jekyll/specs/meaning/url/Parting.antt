-- A URL in its parts, by the syntax of RFC 3986, section 3.
use Rattle.std.specs.Prelude.{ℕ, Bool, not, ◌==◌, ◌&&◌, nat_lt, List, Option, Some, None, codes, drop, length, take, if◌then◌else◌}
use Rattle.std.specs.List.{list_all, prefix_len}
use Rattle.std.specs.Str.{byte}
use Rattle.liquid_jekyll.specs.meaning.url.Cuts.{cut}

-- the parts, without the marks that part them
pub record UrlForm : Type 0 where
  pub scheme : Option (List ℕ)
  pub authority : Option (List ℕ)
  pub path : List ℕ
  pub query : Option (List ℕ)
  pub fragment : Option (List ℕ)

-- whether a byte is not a slash
abbrev pub is_inside : ℕ → Bool
is_inside b = not (b == byte "/")

-- whether a string before a colon is a scheme
abbrev pub is_scheme : List ℕ → Bool
is_scheme text = nat_lt 0 (length text) && list_all is_inside text

-- the scheme and what follows its colon; without a scheme the text itself
abbrev pub scheme_of_cut : List ℕ → List ℕ × Option (List ℕ) → Option (List ℕ) × List ℕ
scheme_of_cut text (before, None) = (None, text)
scheme_of_cut text (before, Some rest) = if is_scheme before then (Some before, rest) else (None, text)

abbrev pub cut_scheme : List ℕ → Option (List ℕ) × List ℕ
cut_scheme text = scheme_of_cut text (cut (codes ":") text)

-- the number of bytes before the first slash
abbrev pub authority_length : List ℕ → ℕ
authority_length text = prefix_len is_inside text

-- the authority, which follows two slashes at the start, and the path after it; without them the text itself
abbrev pub authority_of_cut : List ℕ → List ℕ × Option (List ℕ) → Option (List ℕ) × List ℕ
authority_of_cut text (before, None) = (None, text)
authority_of_cut text (before, Some rest) =
    if length before == 0 then (Some (take (authority_length rest) rest), drop (authority_length rest) rest) else (None, text)

abbrev pub cut_authority : List ℕ → Option (List ℕ) × List ℕ
cut_authority text = authority_of_cut text (cut (codes "//") text)

-- what is before a query and a fragment, in its parts
abbrev pub parted_before : List ℕ → Option (List ℕ) → Option (List ℕ) → UrlForm
parted_before text query fragment =
    record {
      scheme = (cut_scheme text).0;
      authority = (cut_authority (cut_scheme text).1).0;
      path = (cut_authority (cut_scheme text).1).1;
      query = query;
      fragment = fragment;
    }

-- a URL in its parts: the fragment follows the first `#`, and the query the first `?` before it
abbrev pub parted : List ℕ → UrlForm
parted text =
    parted_before (cut (codes "?") (cut (codes "#") text).0).0 (cut (codes "?") (cut (codes "#") text).0).1 (cut (codes "#") text).1
