-- The bodies of `raw` and `comment`, in which no tag is read.
use Rattle.std.specs.Prelude.{ℕ, ◌+◌, ◌-◌, Bool, true, false, ◌&&◌, ◌==◌, List, [], ◌∷◌, Option, Some, None, bytes_eq, codes, nat_eq}
use Rattle.std.specs.Prelude.{if◌then◌else◌}
use Rattle.std.specs.List.{starts_with}
use Rattle.std.specs.Option.{option_map_or}
use Rattle.std.specs.Str.{byte}
use Rattle.jekyll_source.specs.meaning.Splits.{Parts, after_opener, is_white, split_at, split_dash, split_run}
use Rattle.jekyll_source.specs.meaning.Tags.{named}

-- whether a tag of this name begins here
abbrev pub begins_tag : List ℕ → List ℕ → Bool
begins_tag name text = option_map_or (λ rest. bytes_eq (named rest).0 name) (after_opener (byte "%") text) false

-- whether nothing but whitespace and perhaps a dash is before `%}`
abbrev pub closes : List ℕ → Bool
closes text = starts_with nat_eq (split_dash (split_run is_white text).1).1 (codes "%}")

-- whether a tag of this name that says nothing begins here
abbrev pub begins_end : List ℕ → List ℕ → Bool
begins_end name text =
    option_map_or (λ rest. bytes_eq (named rest).0 name && closes (named rest).1) (after_opener (byte "%") text) false

-- how many starts are without their ends after a byte, or none where the body ends
abbrev pub level_after : Option (List ℕ) → List ℕ → ℕ → List ℕ → Option ℕ
level_after start end level text =
    if begins_end end text then (if level == 0 then None else Some (level - 1))
    else if option_map_or (λ name. begins_tag name text) start false then Some (level + 1)
    else Some level

-- the length of a body up to the tag that ends it, or of the whole text. A start inside, if starts nest, has its own end
abbrev pub body_len : Option (List ℕ) → List ℕ → ℕ → List ℕ → ℕ
body_len start end level [] = 0
body_len start end level (b ∷ bs) =
    option_map_or (λ next. 1 + body_len start end next bs) (level_after start end level (b ∷ bs)) 0

-- the body that follows a tag of this name, and what follows that
abbrev pub split_body : List ℕ → List ℕ → Parts
split_body name text =
    if bytes_eq name (codes "raw") then split_at (body_len None (codes "endraw") 0 text) text
    else if bytes_eq name (codes "comment") then split_at (body_len (Some (codes "comment")) (codes "endcomment") 0 text) text
    else split_at 0 text
