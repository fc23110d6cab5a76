use Rattle.std.proofs.Common.{◌≡◌, ◌∙◌, sym, ap, arith, true, false}
use Rattle.liquid_dates.specs.meaning.Names.{month_name}
use Rattle.filter_dates.specs.meaning.Names.{is_name}
use Rattle.filter_dates.proofs.NameLemmas.{named, not_named, none_named}
use Rattle.filter_dates.proofs.names.month_named.Goals as goal

pub returns-then-is_name : goal.returns-then-is_name
returns-then-is_name c =
    let same : is_name (month_name c.months.month) c.args.word.now ≡ true =
    ap (λ t. is_name t c.args.word.now) (sym c.month_name.ensures) ∙ sym c.is_name.ensures ∙ c.if-is_name.true in
    sym (named month_name c.args.word.now 13 c.months.month c.months-test.true same) ∙ c.months.invariant

pub months-preserved : goal.months-preserved
months-preserved c =
    let apart : is_name (month_name c.months.month) c.args.word.now ≡ false =
    ap (λ t. is_name t c.args.word.now) (sym c.month_name.ensures) ∙ sym c.is_name.ensures ∙ c.if-is_name.false in
    sym (not_named month_name c.args.word.now 13 c.months.month c.months-test.true apart) ∙ c.months.invariant

pub returns : goal.returns
returns c = sym (none_named month_name c.args.word.now 13 c.months.month (omega arith)) ∙ c.months.invariant
