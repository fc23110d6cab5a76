-- The names in tags.
use Rattle.std.specs.Prelude.{
  ℕ,
  zero,
  suc,
  ◌+◌,
  Bool,
  drop,
  true,
  false,
  not,
  List,
  [],
  ◌∷◌,
  ◌++◌,
  Option,
  Some,
  None,
  codes,
  is_some,
  length,
}
use Rattle.std.specs.Prelude.{nat_eq, option_and_then, option_map, unwrap_or, if◌then◌else◌}
use Rattle.std.specs.List.{starts_with}
use Rattle.std.specs.Option.{option_map_or}
use Rattle.std.specs.Str.{byte}
use Rattle.memchr.specs.Find.{first_of, matches}
use Rattle.jekyll_source.specs.meaning.Literals.{literal}
use Rattle.jekyll_source.specs.meaning.Splits.{Parts, after_opener, is_blank, is_white, split_around, split_at}
use Rattle.jekyll_source.specs.meaning.Splits.{split_dash, split_end_dash, split_end_run, split_run}

-- the length of the name with which a text begins, perhaps inside of `{{ }}`: it goes up to whitespace outside of them.
-- Without the `}}` there is no name
abbrev pub name_len : Bool → List ℕ → Option ℕ
name_len false [] = Some 0
name_len true [] = None
name_len false (b ∷ bs) =
    if is_white b then Some 0 else option_map suc (name_len (starts_with nat_eq (b ∷ bs) (codes "{{")) bs)
name_len true (b ∷ bs) = option_map suc (name_len (not (starts_with nat_eq (b ∷ bs) (codes "}}"))) bs)

-- the place of the next `{{`, if there is one
abbrev pub open_place : List ℕ → Option ℕ
open_place name = first_of (matches name (codes "{{") 0)

-- the first byte and what follows it up to the next `{{`
abbrev pub text_len : List ℕ → ℕ
text_len name = 1 + unwrap_or (open_place (drop 1 name)) (length (drop 1 name))

-- the text before the next `{{`, and from there on
abbrev pub until_open : List ℕ → Parts
until_open name = split_at (text_len name) name

-- what is between `{{` and `}}`, without a dash and blanks at its ends
abbrev pub chain_of : List ℕ → List ℕ
chain_of inner = (split_end_run is_blank (split_run is_blank (split_end_dash (split_dash inner).1).0).1).0

-- the first part of a name, after a space: what is between `{{` and `}}`, or a text as a literal; and the rest of the name.
-- There is none without the `}}`, or if the text has no literal
abbrev pub next_part : List ℕ → Option Parts
next_part name =
    option_map_or (λ rest. option_map (λ p. (byte " " ∷ chain_of p.0, p.1)) (split_around (codes "}}") rest))
    (after_opener (byte "{") name)
    (option_map (λ l. (byte " " ∷ l, (until_open name).1)) (literal (byte "\"") (until_open name).0))

-- that many parts, or all of them
abbrev pub parts_in : ℕ → List ℕ → Option (List ℕ)
parts_in zero name = Some []
parts_in (suc n) [] = Some []
parts_in (suc n) (b ∷ bs) = option_and_then (λ p. option_map (λ ps. p.0 ++ ps) (parts_in n p.1)) (next_part (b ∷ bs))

abbrev pub parts : List ℕ → Option (List ℕ)
parts name = parts_in (length name) name

abbrev pub enclosed : List ℕ → List ℕ
enclosed ps = byte "<" ∷ (ps ++ codes " >")

-- the name as a text literal, or if it has `{{`, its parts between `<` and `>`
abbrev pub written_name : List ℕ → Option (List ℕ)
written_name name =
    if is_some (open_place name) then option_map enclosed (parts name) else literal (byte "\"") name
