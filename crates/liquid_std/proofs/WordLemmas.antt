-- The word that comes next, and the tokens after it.
use Rattle.std.proofs.Common.{◌≡◌, ℕ, List, [], ◌∷◌, codes, Bool, false, cond, Option, None, Some, sym, ap, ◌∙◌, refl}
use Rattle.std.specs.Prelude.{bytes_eq, not, ◌&&◌, option_and_then}
use Rattle.liquid_parser.specs.meaning.Handed.{Token, Tokens, first_of, next}
use Rattle.liquid_std.specs.meaning.inclusion.CallsGiven.{after_word, begin_with_colon, if_word}

module _ (word : List ℕ) (ts : Tokens) where
  abbrev by_tests : Token × Tokens → Bool → Bool → Option Tokens
  by_tests given b c = cond (b && not c) (Some given.1) None

  pub word_next : (given : Token × Tokens) (text : List ℕ) (b c : Bool) → next ts ≡ Some given → text ≡ given.0.text
      → bytes_eq text word ≡ b → begin_with_colon given.1.left ≡ c → after_word word ts ≡ by_tests given b c
  word_next given text b c first same is colon =
      ap (option_and_then (if_word word)) first
      ∙ ap (λ x. by_tests given x (begin_with_colon given.1.left)) (ap (λ x. bytes_eq x word) (sym same) ∙ is)
      ∙ ap (by_tests given b) colon

  pub no_word : next ts ≡ None → after_word word ts ≡ None
  no_word none = ap (option_and_then (if_word word)) none

-- the next token decides whether a colon comes
pub colon_next : (ts : List Token) (given : Token × Tokens) (text : List ℕ) → first_of ts ≡ Some given → text ≡ given.0.text
    → bytes_eq text (codes ":") ≡ begin_with_colon ts
colon_next [] given text e same = cc
colon_next (t ∷ more) given text e same =
    ap (λ x. bytes_eq x (codes ":")) same
    ∙ sym (ap (λ o. elim o as (λ _. Bool) [ None ↦ false | Some g ↦ bytes_eq g.0.text (codes ":") ]) e)

pub no_colon : (ts : List Token) → first_of ts ≡ None → begin_with_colon ts ≡ false
no_colon [] none = refl
no_colon (t ∷ more) none = cc
