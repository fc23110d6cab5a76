use Rattle.std.proofs.Common.{ap, ◌==◌, ◌∙◌}
use Rattle.liquid_grammar.proofs.FirstByteLemmas.{first_byte, bar_after}
use Rattle.liquid_grammar.proofs.filter.begins_filter.Goals as goal

pub returns : goal.returns
returns c = ap (λ b. b == 124) (first_byte c.skip_white.result.now _ _ c.as_bytes.ensures.value c.byte_at.ensures)
    ∙ bar_after c.args.s.now _ c.skip_white.ensures.value
