-- How the tokens of a block of code are read, token by token.
use Rattle.std.proofs.Common.{◌≡◌, ℕ, Bool, true, false, cond, List, [], ◌∷◌, ◌++◌, Option, None, Some, Result, Ok, Err, codes}
use Rattle.std.proofs.Common.{refl, sym, ap, subst, ◌∙◌}
use Rattle.std.specs.Prelude.{◌&&◌, IfSome, bytes_eq}
use Rattle.liquid_error.specs.declared.place.Place.{Place}
use Rattle.liquid_error.specs.meaning.Refusal.{Refusal, ok_then}
use Rattle.liquid_value.specs.meaning.Render.{render}
use Rattle.liquid_value.specs.meaning.Tree.{Tree}
use Rattle.liquid_parser.specs.meaning.Handed.{
  Token,
  Tokens,
  expect_identifier,
  expect_literal,
  expect_value,
  first_of,
  next,
  or_unexpected,
}
use Rattle.liquid_parser.proofs.StepLemmas.{then_refused}
use Rattle.liquid_plugins.specs.meaning.Expression.{ExpressionShape}
use Rattle.liquid_strings.specs.meaning.Cases.{lowercased}
use Rattle.liquid_tags.specs.meaning.Asked.{next_as}
use Rattle.jekyll_tags.specs.declared.highlight.HighlightShape.{HighlightShape}
use Rattle.liquid_runtime.specs.meaning.View.{View}
use Rattle.liquid_plugins.specs.meaning.Turns.{text_turn}
use Rattle.jekyll_tags.specs.meaning.Highlights.{code_turn, figure}
use Rattle.jekyll_tags.specs.meaning.Seen.{text_seen}
use Rattle.jekyll_tags.specs.meaning.HighlightsGiven.{highlight_given, language_given, option_given, options_from, value_from}

abbrev following : Token → List Token → Tokens
following t more = record { following = t.following; left = more }

abbrev after_value : ExpressionShape × Tokens → Result (Bool × Tokens) Refusal
after_value value = Ok (false, value.1)

abbrev after_name : Tokens → List ℕ → Result (Bool × Tokens) Refusal
after_name ts name = Ok (true, ts)

-- what the tokens after an option make
abbrev pub going_on : Bool × Tokens → Result (Unit {0}) Refusal
going_on g = options_from g.0 g.1.left

valued : (t : Token) (more : List Token) (r : Result ExpressionShape Refusal)
    → ok_then r (λ value. options_from false more)
    ≡ ok_then (ok_then (ok_then r (λ e. Ok (e, following t more))) after_value) going_on
valued t more (Ok e) = refl
valued t more (Err refusal) = refl

value_on : (place : Place) (ts : List Token)
    → value_from place ts ≡ ok_then (ok_then (next_as expect_value (record { following = place; left = ts })) after_value) going_on
value_on place [] = refl
value_on place (t ∷ more) = valued t more (or_unexpected t (expect_value t))

named_on : (ts : Tokens) (r : Result (List ℕ) Refusal)
    → ok_then r (λ name. options_from true ts.left) ≡ ok_then (ok_then r (after_name ts)) going_on
named_on ts (Ok name) = refl
named_on ts (Err refusal) = refl

-- an option, by whether its token is `=` after a name
abbrev option_by : Token → Tokens → Bool → Result (Bool × Tokens) Refusal
option_by t ts b =
    cond b (ok_then (next_as expect_value ts) after_value) (ok_then (or_unexpected t (expect_identifier t)) (after_name ts))

by_sign : (t : Token) (more : List Token) (b : Bool)
    → cond b (value_from t.following more) (ok_then (or_unexpected t (expect_identifier t)) (λ name. options_from true more))
    ≡ ok_then (option_by t (following t more) b) going_on
by_sign t more true = value_on t.following more
by_sign t more false = named_on (following t more) (or_unexpected t (expect_identifier t))

abbrev from_given : Bool → Token × Tokens → Result (Unit {0}) Refusal
from_given named given = ok_then (option_given named given.0 given.1) going_on

at_first : (named : Bool) (ts : List Token) (given : Token × Tokens) → first_of ts ≡ Some given
    → options_from named ts ≡ from_given named given
at_first named [] given e = cc
at_first named (t ∷ more) given e =
    by_sign t more (named && bytes_eq t.text (codes "="))
    ∙ ap (λ o. elim o as (λ _. Result (Unit {0}) Refusal) [ None ↦ options_from named (t ∷ more) | Some g ↦ from_given named g ]) e

none_left : (named : Bool) (ts : List Token) → first_of ts ≡ None → options_from named ts ≡ Ok tt
none_left named [] e = refl
none_left named (t ∷ more) e = cc

module _ (is_named : Bool) (ts : Tokens) (meant : Result (Unit {0}) Refusal) (so_far : meant ≡ options_from is_named ts.left) where
  module _ (given : Token × Tokens) (first : next ts ≡ Some given) where
    -- one option more is read, or refused
    pub option_read : (named : Bool) (rest : Tokens) → option_given is_named given.0 given.1 ≡ Ok (named, rest)
        → meant ≡ options_from named rest.left
    option_read named rest read = so_far ∙ at_first is_named ts.left given first ∙ ap (λ r. ok_then r going_on) read

    pub option_refused : (o : Option Refusal) → IfSome o (λ r. option_given is_named given.0 given.1 ≡ Err r)
        → IfSome o (λ r. meant ≡ Err r)
    option_refused o refused =
        subst (λ q. IfSome o (λ r. q ≡ Err r)) (sym (so_far ∙ at_first is_named ts.left given first))
        (then_refused o (option_given is_named given.0 given.1) going_on refused)

  -- if no option comes, all are read
  pub all_read : next ts ≡ None → meant ≡ Ok tt
  all_read none = so_far ∙ none_left is_named ts.left none

-- an option is `=` and a value, or a name
module _ (is_named : Bool) (t : Token) (ts : Tokens) where
  module _ (signed : (is_named && bytes_eq t.text (codes "=")) ≡ true) where
    pub value_taken : (value : ExpressionShape) (rest : Tokens) → next_as expect_value ts ≡ Ok (value, rest)
        → option_given is_named t ts ≡ Ok (false, rest)
    value_taken value rest read = ap (option_by t ts) signed ∙ ap (λ r. ok_then r after_value) read

    pub value_refused : (o : Option Refusal) → IfSome o (λ r. next_as expect_value ts ≡ Err r)
        → IfSome o (λ r. option_given is_named t ts ≡ Err r)
    value_refused o refused =
        subst (λ q. IfSome o (λ r. q ≡ Err r)) (sym (ap (option_by t ts) signed))
        (then_refused o (next_as expect_value ts) after_value refused)

  module _ (unsigned : (is_named && bytes_eq t.text (codes "=")) ≡ false) where
    pub name_taken : (name : List ℕ) → or_unexpected t (expect_identifier t) ≡ Ok name → option_given is_named t ts ≡ Ok (true, ts)
    name_taken name read = ap (option_by t ts) unsigned ∙ ap (λ r. ok_then r (after_name ts)) read

    pub name_refused : (o : Option Refusal) → IfSome o (λ r. or_unexpected t (expect_identifier t) ≡ Err r)
        → IfSome o (λ r. option_given is_named t ts ≡ Err r)
    name_refused o refused =
        subst (λ q. IfSome o (λ r. q ≡ Err r)) (sym (ap (option_by t ts) unsigned))
        (then_refused o (or_unexpected t (expect_identifier t)) (after_name ts) refused)

module _ (ts : Tokens) where
  abbrev lowered : Tree × Tokens → Result (List ℕ × Tokens) Refusal
  lowered literal = Ok (lowercased (render literal.0), literal.1)

  -- the language is the text of a literal
  pub language_taken : (literal : Tree) (rest : Tokens) (language : List ℕ) → next_as expect_literal ts ≡ Ok (literal, rest)
      → language ≡ lowercased (render literal) → language_given ts ≡ Ok (language, rest)
  language_taken literal rest language read same =
      ap (λ r. ok_then r lowered) read ∙ ap (λ l. Ok (l, rest)) (sym same)

  pub language_refused : (o : Option Refusal) → IfSome o (λ r. next_as expect_literal ts ≡ Err r)
      → IfSome o (λ r. language_given ts ≡ Err r)
  language_refused o refused = then_refused o (next_as expect_literal ts) lowered refused

  abbrev with_language : List ℕ → Unit {0} → Result HighlightShape Refusal
  with_language language u = Ok (record { language = language })

  abbrev after_language : List ℕ × Tokens → Result HighlightShape Refusal
  after_language l = ok_then (options_from false l.1.left) (with_language l.0)

  -- a language and options are a block of code
  pub start_refused : (o : Option Refusal) → IfSome o (λ r. language_given ts ≡ Err r) → IfSome o (λ r. highlight_given ts ≡ Err r)
  start_refused o refused = then_refused o (language_given ts) after_language refused

  module _ (language : List ℕ) (rest : Tokens) (given : language_given ts ≡ Ok (language, rest)) where
    pub options_refused : (o : Option Refusal) → IfSome o (λ r. options_from false rest.left ≡ Err r)
        → IfSome o (λ r. highlight_given ts ≡ Err r)
    options_refused o refused =
        subst (λ q. IfSome o (λ r. q ≡ Err r)) (sym (ap (λ r. ok_then r after_language) given))
        (then_refused o (options_from false rest.left) (with_language language) refused)

    pub block_read : (u : Unit {0}) → options_from false rest.left ≡ Ok u → highlight_given ts ≡ Ok (record { language = language })
    block_read u read = ap (λ r. ok_then r after_language) given ∙ ap (λ r. ok_then r (with_language language)) read

-- the element between two texts is the turn
pub code_written : {Reg : Type 0} (h : HighlightShape) (code : List ℕ) (v : View Reg) (front element back begun whole : List ℕ)
    → front ≡ text_seen (codes "highlighter_prefix") v → element ≡ figure h.language code
    → back ≡ text_seen (codes "highlighter_suffix") v → begun ≡ front ++ element → whole ≡ begun ++ back
    → text_turn whole ≡ code_turn h code v
code_written h code v front element back begun whole is_front is_element is_back is_begun is_whole =
    ap text_turn (is_whole ∙ (ap (λ x. x ++ back) (is_begun ∙ (ap (λ x. x ++ element) is_front
    ∙ ap (λ x. text_seen (codes "highlighter_prefix") v ++ x) is_element))
    ∙ ap (λ x. (text_seen (codes "highlighter_prefix") v ++ figure h.language code) ++ x) is_back))
