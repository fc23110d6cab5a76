-- The loops that tokens make.
use Rattle.std.specs.Prelude.{ℕ, List, [], ◌∷◌, codes, true, false, not, cond, ◌&&◌, bytes_eq, is_none, Option, None, Some, Result, Ok, Err}
use Rattle.liquid_error.specs.declared.place.Place.{Place}
use Rattle.liquid_error.specs.meaning.Refusal.{Refusal, located, ok_then}
use Rattle.liquid_parser.specs.meaning.Cursors.{expect_str}
use Rattle.liquid_plugins.specs.meaning.Expression.{ExpressionShape}
use Rattle.liquid_parser.specs.meaning.Handed.{Token, Tokens, expect_identifier, expect_value, or_unexpected}
use Rattle.liquid_tags.specs.meaning.Asked.{next_as, token_expected}
use Rattle.liquid_tags.specs.meaning.BlockPlugins.{expect_series}
use Rattle.liquid_tags.specs.meaning.CallsGiven.{comma}
use Rattle.liquid_std.specs.declared.iteration.loops.LoopShape.{LoopShape}
use Rattle.liquid_std.specs.declared.iteration.options.LoopBlock.{LoopBlock}
use Rattle.liquid_std.specs.declared.iteration.options.LoopBlock.TheVariants.{For, Tablerow}
use Rattle.liquid_std.specs.declared.iteration.options.LoopOption.{LoopOption}
use Rattle.liquid_std.specs.declared.iteration.options.LoopOption.TheVariants.{Offset, Limit, Reversed, Cols}
use Rattle.liquid_std.specs.declared.iteration.options.OptionsShape.{OptionsShape}

-- the option of either block that a text names, if it was not given yet
abbrev pub range_named : OptionsShape → List ℕ → Option LoopOption
range_named o text =
    cond (bytes_eq text (codes "limit") && is_none o.limit) (Some Limit)
    (cond (bytes_eq text (codes "offset") && is_none o.offset) (Some Offset) None)

-- the option that a text names, if the block takes it and it was not given yet
abbrev pub option_named : LoopBlock → OptionsShape → List ℕ → Option LoopOption
option_named For o text = cond (bytes_eq text (codes "reversed") && not o.is_reversed) (Some Reversed) (range_named o text)
option_named Tablerow o text = cond (bytes_eq text (codes "cols") && is_none o.cols) (Some Cols) (range_named o text)

-- the value of an option; `continue` is none for `offset`
abbrev pub expect_argument : LoopOption → Token → Option ExpressionShape
expect_argument Offset t = cond (bytes_eq t.text (codes "continue")) None (expect_value t)
expect_argument option t = expect_value t

abbrev pub with_option : LoopOption → ExpressionShape → OptionsShape → OptionsShape
with_option Offset e o = record o { offset = Some e }
with_option Limit e o = record o { limit = Some e }
with_option Cols e o = record o { cols = Some e }
with_option Reversed e o = record o { is_reversed = true }

-- the options that tokens add to these: `reversed`, and names with a colon and a value, each once at most. Commas before,
-- between and after them are passed over
abbrev mutual
  pub options_from : LoopBlock → OptionsShape → List Token → Result OptionsShape Refusal
  options_from block o [] = Ok o
  options_from block o (t ∷ ts) = elim (option_named block o t.text) as (λ _. Result OptionsShape Refusal) [
    | None ↦ ok_then (comma t) (λ u. options_from block o ts)
    | Some option ↦ elim option as (λ _. Result OptionsShape Refusal) [
      | Offset ↦ from_colon block Offset o t.following ts
      | Limit ↦ from_colon block Limit o t.following ts
      | Cols ↦ from_colon block Cols o t.following ts
      | Reversed ↦ options_from block (record o { is_reversed = true }) ts
    ]
  ]

  pub from_colon : LoopBlock → LoopOption → OptionsShape → Place → List Token → Result OptionsShape Refusal
  from_colon block option o place [] = Err (located token_expected place)
  from_colon block option o place (t ∷ ts) =
      ok_then (or_unexpected t (expect_str (codes ":") t)) (λ u. from_argument block option o t.following ts)

  pub from_argument : LoopBlock → LoopOption → OptionsShape → Place → List Token → Result OptionsShape Refusal
  from_argument block option o place [] = Err (located token_expected place)
  from_argument block option o place (t ∷ ts) =
      ok_then (or_unexpected t (expect_argument option t)) (λ e. options_from block (with_option option e o) ts)

-- no options
abbrev pub no_options : OptionsShape
no_options = record { offset = None; limit = None; is_reversed = false; cols = None }

-- a name, `in`, a range or a value, and options
abbrev pub loop_given : LoopBlock → Tokens → Result LoopShape Refusal
loop_given block ts =
    ok_then (next_as expect_identifier ts) (λ name. ok_then (next_as (expect_str (codes "in")) name.1) (λ word.
    ok_then (next_as expect_series word.1) (λ series. ok_then (options_from block no_options series.1.left) (λ options.
    Ok (record { name = name.0; series = series.0; options = options })))))
