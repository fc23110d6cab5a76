use Rattle.std.proofs.Common.{refl, ◌∙◌, sym}
use Rattle.std.specs.Str.{chars}
use Rattle.liquid_dates.specs.meaning.Flags.{is_flag, is_digit}
use Rattle.liquid_dates.specs.steps.PatternReader.{front}
use Rattle.liquid_dates.proofs.PatternReaderLemmas.{
  flags_from_none,
  width_from_unset,
  directive_at_is,
  read_unset,
  read_given,
  read_great,
  after_width_fits,
  after_width_great,
}
use Rattle.liquid_dates.proofs.pattern.read_conversion.Goals as goal

pub returns-in_default : goal.returns-in_default
returns-in_default c =
    rw (directive_at_is _ _ _ c.read_flags.ensures.rest c.read_width-width.ensures.rest, c.in_default.ensures.cases) refl

pub returns-in-Unset : goal.returns-in-Unset
returns-in-Unset c =
    let fs = front is_flag (chars c.args.text.now) in
    let ds = front is_digit (chars c.read_flags.result.1.now) in
    let width = read_unset ds (sym (width_from_unset (chars c.read_flags.result.1.now)) ∙ sym c.read_width-width.ensures.width
    ∙ c.in-Unset.is) in
    rw (
      directive_at_is _ _ _ c.read_flags.ensures.rest c.read_width-width.ensures.rest,
      c.in-Some.ensures.cases,
      after_width_fits fs ds _ _ width.1,
    )
    (c.from_modifier.ensures fs ds (c.read_flags.ensures.flags ∙ flags_from_none (chars c.args.text.now)) width.0)

pub returns-in-Given : goal.returns-in-Given
returns-in-Given c =
    let fs = front is_flag (chars c.args.text.now) in
    let ds = front is_digit (chars c.read_flags.result.1.now) in
    let width = read_given ds _ (sym (width_from_unset (chars c.read_flags.result.1.now)) ∙ sym c.read_width-width.ensures.width
    ∙ c.in-Given.is) in
    rw (
      directive_at_is _ _ _ c.read_flags.ensures.rest c.read_width-width.ensures.rest,
      c.in-Some.ensures.cases,
      after_width_fits fs ds _ _ width.1,
    )
    (c.from_modifier-in-Given.ensures fs ds (c.read_flags.ensures.flags ∙ flags_from_none (chars c.args.text.now)) width.0)

pub returns-in-TooGreat : goal.returns-in-TooGreat
returns-in-TooGreat c =
    let fs = front is_flag (chars c.args.text.now) in
    let ds = front is_digit (chars c.read_flags.result.1.now) in
    let width = read_great ds (sym (width_from_unset (chars c.read_flags.result.1.now)) ∙ sym c.read_width-width.ensures.width
    ∙ c.in-TooGreat.is) in
    rw (
      directive_at_is _ _ _ c.read_flags.ensures.rest c.read_width-width.ensures.rest,
      c.in-Some.ensures.cases,
      after_width_great fs ds _ _ width,
    ) refl
