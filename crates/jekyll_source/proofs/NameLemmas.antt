-- The parts of a name, one after another, and where a name ends.
use Rattle.std.proofs.Common.{◌≡◌, ◌≢◌, ℕ, zero, suc, ◌+◌, ◌-◌, ◌<◌, ◌≤◌, Bool, true, false, cond, not, List, [], ◌∷◌, ◌++◌}
use Rattle.std.proofs.Common.{Option, Some, None, length, take, drop, get_or, codes, refl}
use Rattle.std.proofs.Common.{sym, ap, subst, ◌∙◌, arith, append_assoc, drop_of_length-le, ◌&&◌}
use Rattle.std.specs.Option.{option_and_then, option_map, option_map_or, unwrap_or}
use Rattle.std.specs.List.{starts_with}
use Rattle.std.specs.Prelude.{nat_eq}
use Rattle.std.specs.Str.{byte}
use Rattle.memchr.specs.Find.{first_of, matches}
use Rattle.std.proofs.lemmas.Bool.Decides.{nat_tests}
use Rattle.std.proofs.lemmas.List.{drop_more}
use Rattle.jekyll_source.specs.meaning.Literals.{literal}
use Rattle.jekyll_source.specs.meaning.Names.{chain_of, enclosed, name_len, next_part, open_place, parts, parts_in, until_open}
use Rattle.jekyll_source.specs.meaning.Splits.{Parts, after_opener, is_white, split_around, split_at}
use Rattle.jekyll_source.proofs.PieceLemmas.{after_shorter}

-- after a place, what an option of a length adds to
pub past : (at : ℕ) (o : Option ℕ) → option_map (λ n. at + n) (option_map suc o) ≡ option_map (λ n. (at + 1) + n) o
past at None = refl
past at (Some n) = let sum : at + suc n ≡ (at + 1) + n = omega arith in ap Some sum

-- one turn outside of `{{ }}`, at a byte that is not whitespace; and one inside
pub outside_turn : (text : List ℕ) (whole : Option ℕ) (at : ℕ) → at < length text → is_white (get_or text at 0) ≡ false
    → whole ≡ option_map (λ n. at + n) (name_len false (drop at text))
    → whole ≡ option_map (λ n. (at + 1) + n) (name_len (starts_with nat_eq (drop at text) (codes "{{")) (drop (at + 1) text))
outside_turn text whole at within black held =
    let split = drop_more text at 0 within in
    held ∙ ap (λ s. option_map (λ n. at + n) (name_len false s)) split
    ∙ ap (λ t. option_map (λ n. at + n) (cond t (Some 0) (option_map suc
    (name_len (starts_with nat_eq (get_or text at 0 ∷ drop (at + 1) text) (codes "{{")) (drop (at + 1) text))))) black
    ∙ past at (name_len (starts_with nat_eq (get_or text at 0 ∷ drop (at + 1) text) (codes "{{")) (drop (at + 1) text))
    ∙ ap (λ s. option_map (λ n. (at + 1) + n) (name_len (starts_with nat_eq s (codes "{{")) (drop (at + 1) text))) (sym split)

pub inside_turn : (text : List ℕ) (whole : Option ℕ) (at : ℕ) → at < length text
    → whole ≡ option_map (λ n. at + n) (name_len true (drop at text))
    → whole ≡ option_map (λ n. (at + 1) + n) (name_len (not (starts_with nat_eq (drop at text) (codes "}}"))) (drop (at + 1) text))
inside_turn text whole at within held =
    let split = drop_more text at 0 within in
    held ∙ ap (λ s. option_map (λ n. at + n) (name_len true s)) split
    ∙ past at (name_len (not (starts_with nat_eq (get_or text at 0 ∷ drop (at + 1) text) (codes "}}"))) (drop (at + 1) text))
    ∙ ap (λ s. option_map (λ n. (at + 1) + n) (name_len (not (starts_with nat_eq s (codes "}}"))) (drop (at + 1) text))) (sym split)

-- a name ends at whitespace
pub ends_at_white : (text : List ℕ) (whole : Option ℕ) (at : ℕ) → at < length text → is_white (get_or text at 0) ≡ true
    → whole ≡ option_map (λ n. at + n) (name_len false (drop at text)) → whole ≡ Some at
ends_at_white text whole at within white held =
    let split = drop_more text at 0 within in
    let same : at + 0 ≡ at = omega arith in
    held ∙ ap (λ s. option_map (λ n. at + n) (name_len false s)) split
    ∙ ap (λ t. option_map (λ n. at + n) (cond t (Some 0) (option_map suc
    (name_len (starts_with nat_eq (get_or text at 0 ∷ drop (at + 1) text) (codes "{{")) (drop (at + 1) text))))) white
    ∙ ap Some same

-- from the start of a text
pub from_start : (o : Option ℕ) → o ≡ option_map (λ n. 0 + n) o
from_start None = refl
from_start (Some n) = let sum : n ≡ 0 + n = omega arith in ap Some sum

-- one turn at a byte that doesn't end a name
pub name_turn : (text : List ℕ) (whole : Option ℕ) (at : ℕ) (inside next : Bool) → at < length text
    → (not inside && is_white (get_or text at 0)) ≡ false
    → next ≡ cond inside (not (starts_with nat_eq (drop at text) (codes "}}"))) (starts_with nat_eq (drop at text) (codes "{{"))
    → whole ≡ option_map (λ n. at + n) (name_len inside (drop at text))
    → whole ≡ option_map (λ n. (at + 1) + n) (name_len next (drop (at + 1) text))
name_turn text whole at true next within black is held = rw is (inside_turn text whole at within held)
name_turn text whole at false next within black is held = rw is (outside_turn text whole at within black held)

-- .. and at one that does
pub name_ends : (text : List ℕ) (whole : Option ℕ) (at : ℕ) (inside : Bool) → at < length text
    → (not inside && is_white (get_or text at 0)) ≡ true → whole ≡ option_map (λ n. at + n) (name_len inside (drop at text))
    → whole ≡ Some at
name_ends text whole at true within white held = absurd (cc)
name_ends text whole at false within white held = ends_at_white text whole at within white held

pub white_is_ascii : (inside : Bool) (b : ℕ) → (not inside && is_white b) ≡ true → b < 128
white_is_ascii true b e = absurd (cc)
white_is_ascii false b e = grind (arith, nat_tests)

-- at the end of a text
pub name_at_end : (text : List ℕ) (whole : Option ℕ) (at : ℕ) (inside : Bool) → length text ≤ at → at ≤ length text
    → whole ≡ option_map (λ n. at + n) (name_len inside (drop at text)) → whole ≡ cond inside None (Some (length text))
name_at_end text whole at inside low high held =
    let none = drop_of_length-le text low in
    let same : at + 0 ≡ length text = omega arith in go inside (held ∙ ap (λ s. option_map (λ n. at + n) (name_len inside s)) none)
  where
    go : (t : Bool) → whole ≡ option_map (λ n. at + n) (name_len t []) → whole ≡ cond t None (Some (length text))
    go true e = e
    go false e = let same : at + 0 ≡ length text = omega arith in e ∙ ap Some same

-- a text that was split at the length that was found
pub some_split : (text front back : List ℕ) (o : Option ℕ) (n : ℕ) → o ≡ Some n → front ≡ take n text → back ≡ drop n text
    → (let p : Option Parts = Some (front, back) in p ≡ option_map (λ k. split_at k text) o)
some_split text front back o n found before after = rw (before, after, found) refl

pub none_split : (text : List ℕ) (o : Option ℕ) → o ≡ None → (let p : Option Parts = None in p ≡ option_map (λ k. split_at k text) o)
none_split text o found = rw found refl
