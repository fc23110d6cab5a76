use Rattle.std.proofs.Common.{◌≡◌, ◌∙◌, sym, ap, arith, true, false}
use Rattle.std.specs.Str.{bytes_eq}
use Rattle.liquid_dates.specs.meaning.Names.{short_weekday_name}
use Rattle.liquid_dates.proofs.ReaderLemmas.{find_hit, find_miss, find_end}
use Rattle.liquid_dates.proofs.reading.find_weekday.Goals as goal

pub returns-then-is_same : goal.returns-then-is_same
returns-then-is_same c =
    let same : bytes_eq (short_weekday_name c.weekdays.weekday) c.args.name.now ≡ true =
    ap (λ t. bytes_eq t c.args.name.now) (sym (c.as_bytes.ensures.value ∙ c.short_weekday_name.ensures.value))
    ∙ sym c.is_same.ensures ∙ c.if-is_same.true in
    sym (find_hit short_weekday_name c.args.name.now 7 c.weekdays.weekday c.weekdays-test.true same) ∙ c.weekdays.invariant

pub weekdays-preserved : goal.weekdays-preserved
weekdays-preserved c =
    let apart : bytes_eq (short_weekday_name c.weekdays.weekday) c.args.name.now ≡ false =
    ap (λ t. bytes_eq t c.args.name.now) (sym (c.as_bytes.ensures.value ∙ c.short_weekday_name.ensures.value))
    ∙ sym c.is_same.ensures ∙ c.if-is_same.false in
    sym (find_miss short_weekday_name c.args.name.now 7 c.weekdays.weekday c.weekdays-test.true apart) ∙ c.weekdays.invariant

pub returns : goal.returns
returns c = sym (find_end short_weekday_name c.args.name.now 7 c.weekdays.weekday (omega arith)) ∙ c.weekdays.invariant
