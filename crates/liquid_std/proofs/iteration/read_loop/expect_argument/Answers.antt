use Rattle.std.proofs.Common.{◌≡◌, codes, true, false, refl, sym, subst, rules}
use Rattle.std.specs.Prelude.{IfOk, bytes_eq}
use Rattle.liquid_parser.specs.meaning.Cursors.{Tries}
use Rattle.liquid_plugins.specs.meaning.ExpressionOf.{expression_of}
use Rattle.liquid_std.proofs.OptionLemmas.{continue_fails, other_argument}
use Rattle.liquid_std.proofs.iteration.read_loop.expect_argument.Goals as goal

pub returns-then-eq : goal.returns-then-eq
returns-then-eq c t is =
    let same : bytes_eq c.as_str.result.now (codes "continue") ≡ true = search rules in
    (continue_fails c.args.option t c.as_str.result.now c.in-Offset.is (c.as_str.ensures t is) same, refl)

pub returns-else-eq : goal.returns-else-eq
returns-else-eq c t is =
    let apart : bytes_eq c.as_str.result.now (codes "continue") ≡ false = search rules in
    subst (λ o. IfOk c.expect_value.result (λ m. Tries expression_of c.args.token m o))
    (sym (other_argument c.args.option t c.as_str.result.now c.in-Offset.is (c.as_str.ensures t is) apart)) (c.expect_value.ensures t is)
