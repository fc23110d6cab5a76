-- The parts of a tag.
use Rattle.std.specs.Prelude.{ℕ, ◌-◌, List, ◌++◌, drop, length, min, replicate, take}
use Rattle.std.specs.List.{prefix_len, suffix_len}
use Rattle.std.specs.Str.{byte}
use Rattle.jekyll_source.specs.meaning.Splits.{is_blank, is_white, is_word, split_dash, split_end_dash, split_end_run, split_run}

-- what is between `{%` and `%}`: perhaps a dash, whitespace, the name, whitespace, what the tag says, whitespace and perhaps
-- a dash
pub record Tag : Type 0 where
  pub dash : List ℕ
  pub lead : List ℕ
  pub name : List ℕ
  pub gap : List ℕ
  pub body : List ℕ
  pub tail : List ℕ
  pub end_dash : List ℕ

-- the name of a tag and what follows it, in what follows `{%`
abbrev pub named : List ℕ → List ℕ × List ℕ
named text = split_run is_word (split_run is_white (split_dash text).1).1

abbrev pub tag_of : List ℕ → Tag
tag_of inner =
    let after_dash = (split_dash inner).1 in
    let after_lead = (split_run is_white after_dash).1 in
    let after_name = (split_run is_word after_lead).1 in
    let from_body = (split_run is_white after_name).1 in
    let before_dash = (split_end_dash from_body).0 in record {
      dash = (split_dash inner).0;
      lead = (split_run is_white after_dash).0;
      name = (split_run is_word after_lead).0;
      gap = (split_run is_white after_name).0;
      body = (split_end_run is_white before_dash).0;
      tail = (split_end_run is_white before_dash).1;
      end_dash = (split_end_dash from_body).1;
    }

-- without that many blanks at the start, if it has so many; at the end
abbrev pub shorter_start : ℕ → List ℕ → List ℕ
shorter_start n text = drop (min n (prefix_len is_blank text)) text

abbrev pub shorter_end : ℕ → List ℕ → List ℕ
shorter_end n text = take (length text - min n (suffix_len is_blank text)) text

-- the tag with something else for what it says. As many bytes as that is longer, blanks go before `%}`, and if these are too
-- few, behind `{%`; as many as it is shorter, spaces are added before `%}`
abbrev pub fitted : Tag → List ℕ → List ℕ
fitted tag new =
    let grown = length new - length tag.body in
    let tail = shorter_end grown tag.tail in
    let lead = shorter_start (grown - (length tag.tail - length tail)) tag.lead in
    tag.dash ++ (lead ++ (tag.name ++
    (tag.gap ++ (new ++ (tail ++ (replicate (length tag.body - length new) (byte " ") ++ tag.end_dash))))))
