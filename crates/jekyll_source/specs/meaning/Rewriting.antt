-- Tags whose names are written without quotes.
use Rattle.std.specs.Prelude.{ℕ, Bool, false, not, ◌||◌, ◌&&◌, ◌==◌, List, [], ◌∷◌, ◌++◌, Option, Some, None, bytes_eq, codes, drop}
use Rattle.std.specs.Prelude.{length, option_and_then, option_map, take, if◌then◌else◌}
use Rattle.std.specs.Option.{option_map_or}
use Rattle.std.specs.Str.{byte}
use Rattle.jekyll_source.specs.meaning.Names.{name_len, written_name}
use Rattle.jekyll_source.specs.meaning.Parameters.{unescaped}
use Rattle.jekyll_source.specs.meaning.Splits.{is_quote}
use Rattle.jekyll_source.specs.meaning.Tags.{fitted, tag_of}

abbrev pub is_inclusion : List ℕ → Bool
is_inclusion tag =
    (bytes_eq tag (codes "include") || bytes_eq tag (codes "include_relative")) || bytes_eq tag (codes "include_cached")

-- the tags that begin with a name
abbrev pub takes_name : List ℕ → Bool
takes_name tag =
    ((is_inclusion tag || bytes_eq tag (codes "link")) || bytes_eq tag (codes "post_url")) || bytes_eq tag (codes "highlight")

-- whether a name is there that is neither a text literal nor a list of parts
abbrev pub begins_name : List ℕ → Bool
begins_name [] = false
begins_name (b ∷ bs) = not (is_quote b || b == byte "<")

abbrev pub has_name : List ℕ → List ℕ → Bool
has_name tag body = takes_name tag && begins_name body

-- the length of the name in what a tag says: for `link` all of it
abbrev pub name_len_of : List ℕ → List ℕ → Option ℕ
name_len_of tag body = if bytes_eq tag (codes "link") then Some (length body) else name_len false body

-- what follows the name
abbrev pub written_rest : List ℕ → List ℕ → List ℕ
written_rest tag rest = if is_inclusion tag then unescaped rest else rest

-- what a tag says, with the name in this engine's grammar; none if nothing is to be done, or nothing can be
abbrev pub new_body : List ℕ → List ℕ → Option (List ℕ)
new_body tag body =
    if has_name tag body
    then option_and_then (λ n. option_map (λ name. name ++ written_rest tag (drop n body)) (written_name (take n body)))
    (name_len_of tag body)
    else None

-- a tag, between `{%` and `%}`
abbrev pub rewritten : List ℕ → List ℕ
rewritten inner = option_map_or (λ new. fitted (tag_of inner) new) (new_body (tag_of inner).name (tag_of inner).body) inner
