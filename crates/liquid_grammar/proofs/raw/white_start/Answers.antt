use Rattle.std.proofs.Common.{sym, ◌≡◌, ◌∙◌, arith}
use Rattle.liquid_grammar.proofs.RawLemmas.{white_start_less, white_start_here, white_start_from}
use Rattle.liquid_grammar.proofs.raw.white_start.Goals as goal

pub white-preserved : goal.white-preserved
white-preserved c =
    let kept = c.white.invariant in
    record {
      same = kept.same ∙ white_start_less c.args.bytes.now c.args.from c.white.start c.white-test.true
          (sym c.is_white.ensures ∙ c.if-is_white.true);
      low = omega (arith, c.white-test.true);
      high = omega (arith, kept.high);
    }

pub returns-else-is_white-clause-start : goal.returns-else-is_white-clause-start
returns-else-is_white-clause-start c =
    sym (c.white.invariant.same ∙ white_start_here c.args.bytes.now c.args.from c.white.start c.white-test.true
    (sym c.is_white.ensures ∙ c.if-is_white.false))

pub returns-after-white-clause-start : goal.returns-after-white-clause-start
returns-after-white-clause-start c =
    let low = c.white.invariant.low in
    let here : c.white.start ≡ c.args.from = omega (arith, c.white-test.false, low) in
    here ∙ sym (c.white.invariant.same ∙ white_start_from c.args.bytes.now c.args.from c.white.start here)
