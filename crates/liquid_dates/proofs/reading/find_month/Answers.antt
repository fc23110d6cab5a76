use Rattle.std.proofs.Common.{◌≡◌, ◌∙◌, sym, ap, arith, true, false}
use Rattle.std.specs.Str.{bytes_eq}
use Rattle.liquid_dates.specs.meaning.Names.{short_month_name}
use Rattle.liquid_dates.proofs.ReaderLemmas.{find_hit, find_miss, find_end}
use Rattle.liquid_dates.proofs.reading.find_month.Goals as goal

pub returns-then-is_same-clause-value : goal.returns-then-is_same-clause-value
returns-then-is_same-clause-value c =
    let same : bytes_eq (short_month_name c.months.month) c.args.name.now ≡ true =
    ap (λ t. bytes_eq t c.args.name.now) (sym (c.as_bytes.ensures.value ∙ c.short_month_name.ensures.value)) ∙ sym c.is_same.ensures
    ∙ c.if-is_same.true in
    sym (find_hit short_month_name c.args.name.now 13 c.months.month c.months-test.true same) ∙ c.months.invariant

pub months-preserved : goal.months-preserved
months-preserved c =
    let apart : bytes_eq (short_month_name c.months.month) c.args.name.now ≡ false =
    ap (λ t. bytes_eq t c.args.name.now) (sym (c.as_bytes.ensures.value ∙ c.short_month_name.ensures.value)) ∙ sym c.is_same.ensures
    ∙ c.if-is_same.false in
    sym (find_miss short_month_name c.args.name.now 13 c.months.month c.months-test.true apart) ∙ c.months.invariant

pub returns-clause-value : goal.returns-clause-value
returns-clause-value c = sym (find_end short_month_name c.args.name.now 13 c.months.month (omega arith)) ∙ c.months.invariant
