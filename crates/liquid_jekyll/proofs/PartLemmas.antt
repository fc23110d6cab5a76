-- The sets of what is escaped in the parts of a URL.
use Rattle.std.proofs.Common.{
  ◌≡◌,
  ℕ,
  ◌≤◌,
  Bool,
  true,
  false,
  cond,
  not,
  ⊎_elim,
  List,
  [],
  ◌∷◌,
  ◌++◌,
  refl,
  sym,
  ap,
  ◌∙◌,
  arith,
  nat_lt,
  eqb,
}
use Rattle.std.specs.Char.{is_ascii_alphanumeric}
use Rattle.std.specs.Prelude.{codes}
use Rattle.std.specs.List.{list_all}
use Rattle.std.proofs.lemmas.Bool.{agree_below, agree_below_at, and_parts, cases_lt}
use Rattle.std.proofs.lemmas.Bool.Decides.{nat_tests}
use Rattle.percent_encoding.specs.declared.ascii_set.AsciiSet.{AsciiSet}
use Rattle.percent_encoding.specs.AsciiSet.{should_percent_encode}
use Rattle.percent_encoding.specs.Percent.{encode_byte, percent_encode, percent_encode_byte}
use Rattle.liquid_jekyll.specs.declared.url.parts.TheConstants.{OUTSIDE_FIELDS, OUTSIDE_FRAGMENTS, OUTSIDE_SEGMENTS, OUTSIDE_URLS}
use Rattle.liquid_jekyll.specs.declared.url.parts.UrlPart.{UrlPart}
use Rattle.liquid_jekyll.specs.declared.url.parts.UrlPart.TheVariants.{Whole, Segment, Field, Fragment}
use Rattle.liquid_jekyll.specs.meaning.url.Parts.{escaped, escaped_byte, is_of, keeps, keeps_in_segment}

-- what is escaped in a part
abbrev pub outside : UrlPart → AsciiSet
outside Whole = OUTSIDE_URLS
outside Segment = OUTSIDE_SEGMENTS
outside Field = OUTSIDE_FIELDS
outside Fragment = OUTSIDE_FRAGMENTS

table : (part : UrlPart) → agree_below (should_percent_encode (outside part)) (λ b. not (keeps part b)) 128 ≡ true
unfolding should_percent_encode
table Whole = refl
table Segment = refl
table Field = refl
table Fragment = refl

high_escapes : (set : AsciiSet) (b : ℕ) → 128 ≤ b → should_percent_encode set b ≡ true
unfolding should_percent_encode
high_escapes set b high = grind (arith, nat_tests)

-- no mark of ASCII is a byte past it
is_none_of : (marks : List ℕ) (b : ℕ) → list_all (λ mark. nat_lt mark 128) marks ≡ true → 128 ≤ b → is_of marks b ≡ false
is_none_of [] b low high = refl
is_none_of (m ∷ ms) b low high =
    let parts = and_parts (nat_lt m 128) (list_all (λ mark. nat_lt mark 128) ms) low in
    let is_low : nat_lt m 128 ≡ true = parts.0 in
    let other : eqb m b ≡ false = grind (arith, nat_tests) in
    rw (other, is_none_of ms b parts.1 high) refl

no_letter : (b : ℕ) → 128 ≤ b → is_ascii_alphanumeric b ≡ false
no_letter b high = grind (arith, nat_tests)

no_mark : (b : ℕ) → 128 ≤ b → keeps_in_segment b ≡ false
no_mark b high = rw (no_letter b high, is_none_of (codes "-._~!$&'()*+,;=:@") b refl high) refl

high_goes : (part : UrlPart) (b : ℕ) → 128 ≤ b → keeps part b ≡ false
high_goes Whole b high = rw (no_mark b high, is_none_of (codes "/?#[]") b refl high) refl
high_goes Segment b high = no_mark b high
high_goes Field b high = rw (no_mark b high, is_none_of (codes "/?") b refl high) refl
high_goes Fragment b high = rw (no_mark b high, is_none_of (codes "/?") b refl high) refl

-- a byte is escaped if it doesn't mean itself
escapes : (part : UrlPart) (b : ℕ) → should_percent_encode (outside part) b ≡ not (keeps part b)
escapes part b = ⊎_elim
    (λ low. agree_below_at (should_percent_encode (outside part)) (λ x. not (keeps part x)) 128 b (table part) low)
    (λ high. high_escapes (outside part) b high ∙ sym (ap not (high_goes part b high)))
    (cases_lt b 128)

by_test : (b : ℕ) (stays : Bool) → cond (not stays) (percent_encode_byte b) (b ∷ []) ≡ cond stays (b ∷ []) (percent_encode_byte b)
by_test b true = refl
by_test b false = refl

pub each_byte : (part : UrlPart) (b : ℕ) → encode_byte (outside part) b ≡ escaped_byte part b
each_byte part b = ap (λ t. cond t (percent_encode_byte b) (b ∷ [])) (escapes part b) ∙ by_test b (keeps part b)

pub all_bytes : (part : UrlPart) (bytes : List ℕ) → percent_encode (outside part) bytes ≡ escaped part bytes
unfolding percent_encode
all_bytes part [] = refl
all_bytes part (b ∷ bs) = ap (λ t. t ++ percent_encode (outside part) bs) (each_byte part b)
    ∙ ap (λ t. escaped_byte part b ++ t) (all_bytes part bs)
