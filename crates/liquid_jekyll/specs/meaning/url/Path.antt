-- Paths of URLs in their normal form.
use Rattle.std.specs.Prelude.{
  ℕ,
  ◌-◌,
  Bool,
  false,
  ◌||◌,
  List,
  [],
  ◌∷◌,
  ◌++◌,
  Option,
  None,
  Some,
  codes,
  flat_map,
  fold,
  length,
  map,
  take,
  if◌then◌else◌,
}
use Rattle.std.specs.List.{join_by, slice_get}
use Rattle.std.specs.Str.{bytes_eq}
use Rattle.liquid_strings.specs.meaning.Pieces.{pieces}
use Rattle.liquid_jekyll.specs.meaning.text.Spaces.{stripped}
use Rattle.liquid_jekyll.specs.declared.url.parts.UrlPart.TheVariants.{Segment}
use Rattle.liquid_jekyll.specs.meaning.url.Parts.{cleaned}

abbrev pub is_dot : List ℕ → Bool
is_dot segment = bytes_eq segment (codes ".")

abbrev pub is_parent : List ℕ → Bool
is_parent segment = bytes_eq segment (codes "..")

-- the segments with one more at their end; a dot adds none, and two dots take the last one away
abbrev pub step : List (List ℕ) → List ℕ → List (List ℕ)
step kept segment =
    if is_dot segment then kept
    else if is_parent segment then take (length kept - 1) kept
    else kept ++ (segment ∷ [])

-- whether there is a last segment that is a dot or two
abbrev pub is_dots : Option (List ℕ) → Bool
is_dots None = false
is_dots (Some s) = is_dot s || is_parent s

abbrev pub ends_in_dots : List (List ℕ) → Bool
ends_in_dots segments = is_dots (slice_get segments (length segments - 1))

-- a path after the root: each segment that stays after a slash; dots at the end leave a slash
abbrev pub rooted : List (List ℕ) → List ℕ
rooted segments =
    flat_map (λ s. codes "/" ++ s) (fold step [] segments) ++ (if ends_in_dots segments then codes "/" else [])

-- the path of segments, which begins at the root if the first one is empty
abbrev pub path_of : List (List ℕ) → List ℕ
path_of ([] ∷ segments) = rooted segments
path_of segments = join_by (λ s. s) (codes "/") segments

-- the path with clean segments, and without dots after the root
abbrev pub normal_path : List ℕ → List ℕ
normal_path path = path_of (map (cleaned Segment) (pieces (codes "/") (stripped path)))
