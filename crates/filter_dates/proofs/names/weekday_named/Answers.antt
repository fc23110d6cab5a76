use Rattle.std.proofs.Common.{◌≡◌, ◌∙◌, sym, ap, arith, true, false}
use Rattle.liquid_dates.specs.meaning.Names.{weekday_name}
use Rattle.filter_dates.specs.meaning.Names.{is_name}
use Rattle.filter_dates.proofs.NameLemmas.{named, not_named, none_named}
use Rattle.filter_dates.proofs.names.weekday_named.Goals as goal

pub returns-then-is_name : goal.returns-then-is_name
returns-then-is_name c =
    let same : is_name (weekday_name c.weekdays.weekday) c.args.word.now ≡ true =
    ap (λ t. is_name t c.args.word.now) (sym c.weekday_name.ensures) ∙ sym c.is_name.ensures ∙ c.if-is_name.true in
    sym (named weekday_name c.args.word.now 7 c.weekdays.weekday c.weekdays-test.true same) ∙ c.weekdays.invariant

pub weekdays-preserved : goal.weekdays-preserved
weekdays-preserved c =
    let apart : is_name (weekday_name c.weekdays.weekday) c.args.word.now ≡ false =
    ap (λ t. is_name t c.args.word.now) (sym c.weekday_name.ensures) ∙ sym c.is_name.ensures ∙ c.if-is_name.false in
    sym (not_named weekday_name c.args.word.now 7 c.weekdays.weekday c.weekdays-test.true apart) ∙ c.weekdays.invariant

pub returns : goal.returns
returns c = sym (none_named weekday_name c.args.word.now 7 c.weekdays.weekday (omega arith)) ∙ c.weekdays.invariant
