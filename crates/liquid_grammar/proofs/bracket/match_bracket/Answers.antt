use Rattle.std.proofs.Common.{◌≡◌, sym, ◌∙◌, arith, rules}
use Rattle.liquid_grammar.specs.declared.bracket.Await.TheVariants.{Index}
use Rattle.liquid_grammar.proofs.FlatBrackets.{bracket_opens, all_closed, going_at}
use Rattle.liquid_grammar.proofs.bracket.match_bracket.Goals as goal

pub brackets-init : goal.brackets-init
brackets-init c =
    let shorter = c.in_ok-open_bracket.ensures.shorter in (
      search rules,
      record {
        same = bracket_opens _ _ c.in_ok-open_bracket.ensures.value;
        less = shorter;
        room =
            omega (arith, shorter);
        whole = λ e. absurd (omega arith);
      },
    )

pub returns-clause-value : goal.returns-clause-value
returns-clause-value c =
    let closed : c.brackets.state.depth ≡ 0 = omega arith in
    let kept = c.brackets.invariant.1 in
    sym (kept.same ∙ going_at c.brackets.state Index (kept.whole closed) ∙ all_closed _ c.brackets.state.depth _ closed)
