-- Readers: what each rule finds, computed. They connect the code to the rules, and no public clause cites them.
use Rattle.std.specs.Prelude.{
  ◌≡◌,
  ℕ,
  zero,
  suc,
  ◌-◌,
  ◌+◌,
  ◌<◌,
  ◌==◌,
  ◌&&◌,
  ◌||◌,
  Bool,
  cond,
  not,
  List,
  [],
  ◌∷◌,
  length,
  take,
  drop,
  slice_index,
  Option,
  Some,
  None,
  option_map,
  option_and_then,
  is_some,
}
use Rattle.std.specs.Option.{option_or}
use Rattle.std.specs.List.{prefix_len}
use Rattle.std.specs.Str.{IsCharBoundary}
use Rattle.std.specs.Borrow.{Bor}
use Rattle.liquid_grammar.specs.meaning.Bytes.{is_white, starts_name, is_word}
use Rattle.liquid_grammar.specs.meaning.Grammar.{Opens, is_literal_word}
use Rattle.liquid_grammar.specs.meaning.Bytes.{close_brace, dash, open_brace, percent}

-- a shape, and what is left of the text
abbrev pub Reader : Type 0 → Type 0
Reader A = List ℕ → Option (A × List ℕ)

abbrev pub one : (ℕ → Bool) → Reader ℕ
one p [] = None
one p (b ∷ s) = cond (p b) (Some (b, s)) None

abbrev pub byte : ℕ → Reader ℕ
byte b = one (λ c. c == b)

-- f, and g after it
abbrev pub both : {A B : Type 0} → Reader A → Reader B → Reader (A × B)
both f g s = option_and_then (λ a. option_map (λ b. ((a.0, b.0), b.1)) (g a.1)) (f s)

abbrev pub either : {A : Type 0} → Reader A → Reader A → Reader A
either f g s = option_or (f s) (g s)

abbrev pub seen : {A B : Type 0} → (A → B) → Reader A → Reader B
seen h f s = option_map (λ a. (h a.0, a.1)) (f s)

abbrev pub only : {A : Type 0} → (A → Bool) → Reader A → Reader A
only p f s = option_and_then (λ a. cond (p a.0) (Some a) None) (f s)

abbrev pub text : {A : Type 0} → Reader A → Reader (List ℕ)
text f s = option_map (λ a. (take (length s - length a.1) s, a.1)) (f s)

abbrev pub ahead : {A : Type 0} → Reader A → Reader (Unit {0})
ahead f s = cond (is_some (f s)) (Some (tt, s)) None

-- f and g, with the shape of g, and with the shape of f
abbrev pub right : {A B : Type 0} → Reader A → Reader B → Reader B
right f g = seen (λ p. p.1) (both f g)

abbrev pub left : {A B : Type 0} → Reader A → Reader B → Reader A
left f g = seen (λ p. p.0) (both f g)

-- the longest run of bytes that pass
abbrev pub run : (ℕ → Bool) → Reader (List ℕ)
run p s = Some (take (prefix_len p s) s, drop (prefix_len p s) s)

unfoldable pub white : Reader (List ℕ)
white = run is_white

unfoldable pub braces : ℕ → Reader ℕ
braces kind = right (byte open_brace) (byte kind)

unfoldable pub dashed_opener : ℕ → Reader ℕ
dashed_opener kind = right (right white (braces kind)) (byte dash)

unfoldable pub opener : ℕ → Reader ℕ
opener kind = either (dashed_opener kind) (braces kind)

unfoldable pub any_opener : Reader ℕ
any_opener = either (opener open_brace) (opener percent)

unfoldable pub dashed_closer : ℕ → Reader ℕ
dashed_closer kind = left (right (right (byte dash) (byte kind)) (byte close_brace)) white

unfoldable pub closer : ℕ → Reader ℕ
closer kind = either (dashed_closer kind) (right (byte kind) (byte close_brace))

-- a byte of a name, before this text
abbrev pub is_name_byte : ℕ → List ℕ → Bool
is_name_byte b s = is_word b || (b == dash && is_word (slice_index s 0))

-- the number of name bytes that the text begins with
unfoldable pub name_len : List ℕ → ℕ
name_len [] = 0
name_len (b ∷ s) = cond (is_name_byte b s) (1 + name_len s) 0

abbrev pub name_bytes : Reader (List ℕ)
name_bytes s = Some (take (name_len s) s, drop (name_len s) s)

unfoldable pub identifier : Reader (List ℕ)
identifier = text (both (one starts_name) name_bytes)

unfoldable pub name : Reader (List ℕ)
name = only (λ word. not (is_literal_word word)) identifier

unfoldable pub lone_brace : Reader (List ℕ)
lone_brace = text (both white (byte open_brace))

-- `{{` or `{%` is at the index
abbrev pub begins_braces : List ℕ → ℕ → Bool
begins_braces s at = slice_index s at == open_brace && (slice_index s (at + 1) == open_brace || slice_index s (at + 1) == percent)

-- where the whitespace before the index `from + n` begins, not before `from`
unfoldable pub white_start : List ℕ → (from n : ℕ) → ℕ
white_start s from zero = from
white_start s from (suc n) = cond (is_white (slice_index s (from + n))) (white_start s from n) (from + n + 1)

-- raw text at the beginning of s ends before the index n
pub record EndsRaw (s : List ℕ) (n : ℕ) : Type 0 where
  pub closed : (k : ℕ) → k < n → ¬ (Opens (drop k s))
  pub stops : n < length s → Opens (drop n s)
  pub boundary : IsCharBoundary s n

-- the result is what the reader found
abbrev pub Splits : Option (Bor (List ℕ) × Bor (List ℕ)) → Option (List ℕ × List ℕ) → Type 0
Splits result found = option_map (λ p. (p.0.now, p.1.now)) result ≡ found

-- the result is what the reader left
abbrev pub Leaves : {A : Type 0} → Option (Bor (List ℕ)) → Option (A × List ℕ) → Type 0
Leaves result found = option_map (λ rest. rest.now) result ≡ option_map (λ p. p.1) found
