use Rattle.std.proofs.Common.{Ok, map, sym, ap, ◌∙◌, subst, arith}
use Rattle.std.specs.Option.{option_or}
use Rattle.liquid_error.specs.meaning.Refusal.{ok_then}
use Rattle.liquid_grammar.specs.meaning.Faults.{filter_fault, first_fault}
use Rattle.liquid_grammar.specs.meaning.Rules.{Repeated}
use Rattle.liquid_grammar.specs.meaning.Tokens.{Following, FilterRule}
use Rattle.liquid_parser.specs.meaning.Handed.{expression_meant}
use Rattle.liquid_parser.proofs.chain.fast_path.fast_chain.Goals as goal

pub returns-in-Whole-clause-value : goal.returns-in-Whole-clause-value
returns-in-Whole-clause-value g c source place middle rest chain begun others =
    let value = rw c.in-Some.is at c.in_ok-entry.ensures.value place middle chain.what.0 begun (λ some. absurd (omega (arith, some))) in
    let filters =
    rw c.in-Whole.is at c.in_ok-filters-in-Some.ensures.value source rest chain.what.1
    (subst (λ m. Repeated (Following 124 FilterRule) m rest chain.what.1) (sym value.2) others) in (
      ap (λ o. option_or o (first_fault filter_fault chain.what.1)) value.0 ∙ filters.0,
      ap (λ r. ok_then r (λ xs. Ok (record { entry = expression_meant chain.what.0; filters = xs }))) filters.1
          ∙ (ap (λ e. Ok (record { entry = e; filters = map g.F.Filter.Meant.shape c.in-Whole.filters.items })) (sym value.1)
          ∙ ap (λ x. Ok x) (sym c.new.ensures)),
      filters.2,
    )

pub returns-in-NoExpression-clause-value : goal.returns-in-NoExpression-clause-value
returns-in-NoExpression-clause-value g c source place middle rest chain begun others =
    let value = rw c.in-Some.is at c.in_ok-entry.ensures.value place middle chain.what.0 begun (λ some. absurd (omega (arith, some))) in
    rw c.in-NoExpression.is at c.in_ok-filters-in-Some.ensures.value source rest chain.what.1
    (subst (λ m. Repeated (Following 124 FilterRule) m rest chain.what.1) (sym value.2) others)
