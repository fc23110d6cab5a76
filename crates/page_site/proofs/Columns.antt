-- The fields of a row, one after the other.
use Rattle.std.proofs.Common.{
  ◌≡◌,
  ◌<◌,
  ◌+◌,
  ℕ,
  zero,
  suc,
  List,
  [],
  ◌∷◌,
  Option,
  Some,
  None,
  length,
  drop,
  map,
  refl,
  sym,
  ap,
  ◌∙◌,
  arith,
  add-one,
}
use Rattle.csv.specs.Records.{Row, field_at, fields_of}
use Rattle.liquid_value.specs.meaning.Tree.{Members}
use Rattle.page_site.specs.meaning.data_files.Sheet.{put_field, row_members, row_tree}

none_left : (names : List (List ℕ)) (ms : Members) → row_members names [] ms ≡ ms
none_left [] ms = refl
none_left (name ∷ names) ms = refl

no_field : (name : Option (List ℕ)) (ms : Members) → put_field name None ms ≡ ms
no_field None ms = refl
no_field (Some name) ms = refl

next_field : (i : ℕ) (names fields : List (List ℕ)) (ms : Members) → i < length names
    → row_members (drop i names) (drop i fields) ms
    ≡ row_members (drop (suc i) names) (drop (suc i) fields) (put_field (field_at names i) (field_at fields i) ms)
unfolding field_at
next_field i [] fields ms h = absurd (omega arith)
next_field zero (name ∷ names) [] ms h = sym (none_left names ms)
next_field zero (name ∷ names) (field ∷ fields) ms h = refl
next_field (suc i) (name ∷ names) [] ms h =
    none_left (drop i names) ms ∙ sym
    (none_left (drop (suc i) names) (put_field (field_at names i) None ms) ∙ no_field (field_at names i) ms)
next_field (suc i) (name ∷ names) (field ∷ fields) ms h = next_field i names fields ms (omega arith)

pub one_more_field : (i : ℕ) (names fields : List (List ℕ)) (ms : Members) → i < length names
    → row_members (drop i names) (drop i fields) ms
    ≡ row_members (drop (i + 1) names) (drop (i + 1) fields) (put_field (field_at names i) (field_at fields i) ms)
one_more_field i names fields ms h = rw add-one (next_field i names fields ms h)

pub fields_read : (names : List (List ℕ)) (rows : List Row)
    → map (λ row. row_tree names (fields_of row)) rows ≡ map (row_tree names) (map fields_of rows)
fields_read names [] = refl
fields_read names (row ∷ rows) = ap (λ ts. row_tree names (fields_of row) ∷ ts) (fields_read names rows)
