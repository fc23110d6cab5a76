-- How the options of a loop are read, option by option.
use Rattle.std.proofs.Common.{◌≡◌, ℕ, List, [], ◌∷◌, Option, None, Some, Result, Ok, Err, true, refl, sym, ap, subst, ◌∙◌, codes}
use Rattle.std.specs.Prelude.{IfSome, bytes_eq, cond, false}
use Rattle.liquid_error.specs.meaning.Refusal.{Refusal, ok_then}
use Rattle.liquid_error.specs.declared.place.Place.{Place}
use Rattle.liquid_plugins.specs.meaning.Expression.{ExpressionShape}
use Rattle.liquid_parser.specs.meaning.Cursors.{expect_str}
use Rattle.liquid_parser.specs.meaning.Handed.{Token, Tokens, expect_value, first_of, or_unexpected}
use Rattle.liquid_parser.proofs.StepLemmas.{then_refused}
use Rattle.liquid_tags.specs.meaning.Asked.{next_as}
use Rattle.liquid_tags.specs.meaning.CallsGiven.{comma}
use Rattle.liquid_std.specs.declared.iteration.options.LoopBlock.{LoopBlock}
use Rattle.liquid_std.specs.declared.iteration.options.LoopOption.{LoopOption}
use Rattle.liquid_std.specs.declared.iteration.options.LoopOption.TheVariants.{Offset, Limit, Reversed, Cols}
use Rattle.liquid_std.specs.declared.iteration.options.OptionsShape.{OptionsShape}
use Rattle.liquid_std.specs.meaning.iteration.OptionsGiven.{
  expect_argument,
  from_argument,
  from_colon,
  option_named,
  options_from,
  with_option,
}
use Rattle.liquid_std.specs.steps.iteration.Reading.{argument_given, option_given}

abbrev tokens : Token → List Token → Tokens
tokens t more = record { following = t.following; left = more }

module _ (block : LoopBlock) where
  -- the options with an argument that is read, and those that the tokens after it make
  abbrev pub with_argument : LoopOption → OptionsShape → ExpressionShape × Tokens → Result OptionsShape Refusal
  with_argument option o e = options_from block (with_option option e.0 o) e.1.left

  argued : (option : LoopOption) (o : OptionsShape) (t : Token) (more : List Token) (r : Result ExpressionShape Refusal)
      → ok_then r (λ e. options_from block (with_option option e o) more) ≡ ok_then (ok_then r (λ e. Ok (e, tokens t more)))
      (with_argument option o)
  argued option o t more (Ok e) = refl
  argued option o t more (Err refusal) = refl

  from_place : (option : LoopOption) (o : OptionsShape) (place : Place) (ts : List Token)
      → from_argument block option o place ts ≡ ok_then (next_as (expect_argument option) (record { following = place; left = ts }))
      (with_argument option o)
  from_place option o place [] = refl
  from_place option o place (t ∷ more) = argued option o t more (or_unexpected t (expect_argument option t))

  coloned : (option : LoopOption) (o : OptionsShape) (t : Token) (more : List Token) (r : Result (Unit {0}) Refusal)
      → ok_then r (λ u. from_argument block option o t.following more)
      ≡ ok_then (ok_then (ok_then {B = Unit {0} × Tokens} r (λ u. Ok (u, tokens t more)))
      (λ colon. next_as (expect_argument option) colon.1)) (with_argument option o)
  coloned option o t more (Ok u) = from_place option o t.following more
  coloned option o t more (Err refusal) = refl

  from_name : (option : LoopOption) (o : OptionsShape) (place : Place) (ts : List Token)
      → from_colon block option o place ts ≡ ok_then (argument_given option (record { following = place; left = ts }))
      (with_argument option o)
  from_name option o place [] = refl
  from_name option o place (t ∷ more) = coloned option o t more (or_unexpected t (expect_str (codes ":") t))

  -- what follows the token that names an option
  abbrev after_name : OptionsShape → Token × Tokens → Result OptionsShape Refusal
  after_name o given = elim (option_named block o given.0.text) as (λ _. Result OptionsShape Refusal) [
    | None ↦ ok_then (comma given.0) (λ u. options_from block o given.1.left)
    | Some option ↦ elim option as (λ _. Result OptionsShape Refusal) [
      | Offset ↦ from_colon block Offset o given.0.following given.1.left
      | Limit ↦ from_colon block Limit o given.0.following given.1.left
      | Cols ↦ from_colon block Cols o given.0.following given.1.left
      | Reversed ↦ options_from block (record o { is_reversed = true }) given.1.left
    ]
  ]

  at_first : (o : OptionsShape) (ts : List Token) (given : Token × Tokens) → first_of ts ≡ Some given
      → options_from block o ts ≡ after_name o given
  at_first o [] given e = cc
  at_first o (t ∷ more) given e =
      ap (λ g. elim g as (λ _. Result OptionsShape Refusal) [ None ↦ options_from block o (t ∷ more) | Some g ↦ after_name o g ]) e

  stands : (ts : List Token) (given : Token × Tokens) → first_of ts ≡ Some given → tokens given.0 given.1.left ≡ given.1
  stands [] given e = cc
  stands (t ∷ more) given e =
      sym (ap (λ o. elim o as (λ _. Tokens) [ None ↦ tokens t more | Some g ↦ tokens g.0 g.1.left ]) e)
      ∙ ap (λ o. elim o as (λ _. Tokens) [ None ↦ tokens t more | Some g ↦ g.1 ]) e

  abbrev chosen : OptionsShape → Token × Tokens → Option LoopOption → Result OptionsShape Refusal
  chosen o given named = elim named as (λ _. Result OptionsShape Refusal) [
    | None ↦ ok_then (comma given.0) (λ u. options_from block o given.1.left)
    | Some option ↦ elim option as (λ _. Result OptionsShape Refusal) [
      | Offset ↦ from_colon block Offset o given.0.following given.1.left
      | Limit ↦ from_colon block Limit o given.0.following given.1.left
      | Cols ↦ from_colon block Cols o given.0.following given.1.left
      | Reversed ↦ options_from block (record o { is_reversed = true }) given.1.left
    ]
  ]

  named : (o : OptionsShape) (ts : List Token) (given : Token × Tokens) (option : Option LoopOption) → first_of ts ≡ Some given
      → option_named block o given.0.text ≡ option → options_from block o ts ≡ chosen o given option
  named o ts given option first is = at_first o ts given first ∙ ap (chosen o given) is

  -- the options with one more, and those that the tokens after it make
  abbrev going_on : OptionsShape × Tokens → Result OptionsShape Refusal
  going_on g = options_from block g.0 g.1.left

  argument_on : (option : LoopOption) (o : OptionsShape) (change : ExpressionShape → OptionsShape)
      (r : Result (ExpressionShape × Tokens) Refusal) → ((e : ExpressionShape) → with_option option e o ≡ change e)
      → ok_then r (with_argument option o) ≡ ok_then (ok_then r (λ e. Ok (change e.0, e.1))) going_on
  argument_on option o change (Ok e) is = ap (λ p. options_from block p e.1.left) (is e.0)
  argument_on option o change (Err refusal) is = refl

  chosen_on : (option : LoopOption) (o : OptionsShape) (ts : List Token) (given : Token × Tokens) → first_of ts ≡ Some given
      → chosen o given (Some option) ≡ ok_then (option_given option o given.1) going_on
  chosen_on Reversed o ts given first = refl
  chosen_on Offset o ts given first =
      from_name Offset o given.0.following given.1.left ∙ ap (λ g. ok_then (argument_given Offset g) (with_argument Offset o))
      (stands ts given first)
      ∙ argument_on Offset o (λ e. record o { offset = Some e }) (argument_given Offset given.1) (λ e. refl)
  chosen_on Cols o ts given first =
      from_name Cols o given.0.following given.1.left ∙ ap (λ g. ok_then (argument_given Cols g) (with_argument Cols o))
      (stands ts given first)
      ∙ argument_on Cols o (λ e. record o { cols = Some e }) (argument_given Cols given.1) (λ e. refl)
  chosen_on Limit o ts given first =
      from_name Limit o given.0.following given.1.left ∙ ap (λ g. ok_then (argument_given Limit g) (with_argument Limit o))
      (stands ts given first)
      ∙ argument_on Limit o (λ e. record o { limit = Some e }) (argument_given Limit given.1) (λ e. refl)

  option_on : (o : OptionsShape) (ts : List Token) (given : Token × Tokens) (option : LoopOption) → first_of ts ≡ Some given
      → option_named block o given.0.text ≡ Some option
      → options_from block o ts ≡ ok_then (option_given option o given.1) going_on
  option_on o ts given option first is = named o ts given (Some option) first is ∙ chosen_on option o ts given first

  -- one option more is read, or what follows its name is refused
  pub option_read : (o after : OptionsShape) (ts : List Token) (given : Token × Tokens) (option : LoopOption) (rest : Tokens)
      (meant : Result OptionsShape Refusal)
      → meant ≡ options_from block o ts → first_of ts ≡ Some given → option_named block o given.0.text ≡ Some option
      → option_given option o given.1 ≡ Ok (after, rest) → meant ≡ options_from block after rest.left
  option_read o after ts given option rest meant so_far first is read =
      so_far ∙ option_on o ts given option first is ∙ ap (λ r. ok_then r going_on) read

  pub option_refused : (o : OptionsShape) (ts : List Token) (given : Token × Tokens) (option : LoopOption) (e : Option Refusal)
      (meant : Result OptionsShape Refusal)
      → meant ≡ options_from block o ts → first_of ts ≡ Some given → option_named block o given.0.text ≡ Some option
      → IfSome e (λ r. option_given option o given.1 ≡ Err r) → IfSome e (λ r. meant ≡ Err r)
  option_refused o ts given option e meant so_far first is refused =
      subst (λ q. IfSome e (λ r. q ≡ Err r)) (sym (so_far ∙ option_on o ts given option first is))
      (then_refused e (option_given option o given.1) going_on refused)

  -- a token that names no option is a comma, or is refused
  pub comma_passed : (o : OptionsShape) (ts : List Token) (given : Token × Tokens) (u : Unit {0}) (meant : Result OptionsShape Refusal)
      → meant ≡ options_from block o ts → first_of ts ≡ Some given → option_named block o given.0.text ≡ None
      → comma given.0 ≡ Ok u → meant ≡ options_from block o given.1.left
  comma_passed o ts given u meant so_far first is is_comma =
      so_far ∙ named o ts given None first is ∙ ap (λ r. ok_then r (λ w. options_from block o given.1.left)) is_comma

  pub comma_refused : (o : OptionsShape) (ts : List Token) (given : Token × Tokens) (e : Option Refusal)
      (meant : Result OptionsShape Refusal)
      → meant ≡ options_from block o ts → first_of ts ≡ Some given → option_named block o given.0.text ≡ None
      → IfSome e (λ r. comma given.0 ≡ Err r) → IfSome e (λ r. meant ≡ Err r)
  comma_refused o ts given e meant so_far first is refused =
      subst (λ q. IfSome e (λ r. q ≡ Err r)) (sym (so_far ∙ named o ts given None first is))
      (then_refused e (comma given.0) (λ u. options_from block o given.1.left) refused)

  -- where no token is left the options that are read are all
  pub all_read : (o : OptionsShape) (ts : List Token) (meant : Result OptionsShape Refusal) → meant ≡ options_from block o ts
      → first_of ts ≡ None → meant ≡ Ok o
  all_read o [] meant so_far none = so_far
  all_read o (t ∷ more) meant so_far none = cc

-- the argument of `offset` is not `continue`
pub continue_fails : (option : LoopOption) (t : Token) (text : List ℕ) → option ≡ Offset → text ≡ t.text
    → bytes_eq text (codes "continue") ≡ true → expect_argument option t ≡ None
continue_fails option t text offset same is =
    ap (λ o. expect_argument o t) offset ∙ ap (λ b. cond b None (expect_value t)) (ap (λ x. bytes_eq x (codes "continue")) (sym same) ∙ is)

pub other_argument : (option : LoopOption) (t : Token) (text : List ℕ) → option ≡ Offset → text ≡ t.text
    → bytes_eq text (codes "continue") ≡ false → expect_argument option t ≡ expect_value t
other_argument option t text offset same is =
    ap (λ o. expect_argument o t) offset ∙ ap (λ b. cond b None (expect_value t)) (ap (λ x. bytes_eq x (codes "continue")) (sym same) ∙ is)

abbrev with_offset : OptionsShape → ExpressionShape × Tokens → Result (OptionsShape × Tokens) Refusal
with_offset o e = Ok (record o { offset = Some e.0 }, e.1)

abbrev with_limit : OptionsShape → ExpressionShape × Tokens → Result (OptionsShape × Tokens) Refusal
with_limit o e = Ok (record o { limit = Some e.0 }, e.1)

-- an option with an argument is given
pub offset_given : (option : LoopOption) (o : OptionsShape) (ts rest : Tokens) (e : ExpressionShape) → option ≡ Offset
    → argument_given Offset ts ≡ Ok (e, rest) → option_given option o ts ≡ Ok (record o { offset = Some e }, rest)
offset_given option o ts rest e is read = ap (λ x. option_given x o ts) is ∙ ap (λ r. ok_then r (with_offset o)) read

pub limit_given : (option : LoopOption) (o : OptionsShape) (ts rest : Tokens) (e : ExpressionShape) → option ≡ Limit
    → argument_given Limit ts ≡ Ok (e, rest) → option_given option o ts ≡ Ok (record o { limit = Some e }, rest)
limit_given option o ts rest e is read = ap (λ x. option_given x o ts) is ∙ ap (λ r. ok_then r (with_limit o)) read

abbrev with_cols : OptionsShape → ExpressionShape × Tokens → Result (OptionsShape × Tokens) Refusal
with_cols o e = Ok (record o { cols = Some e.0 }, e.1)

pub cols_given : (option : LoopOption) (o : OptionsShape) (ts rest : Tokens) (e : ExpressionShape) → option ≡ Cols
    → argument_given Cols ts ≡ Ok (e, rest) → option_given option o ts ≡ Ok (record o { cols = Some e }, rest)
cols_given option o ts rest e is read = ap (λ x. option_given x o ts) is ∙ ap (λ r. ok_then r (with_cols o)) read
