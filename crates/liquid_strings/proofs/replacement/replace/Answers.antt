use Rattle.std.proofs.Common.{sym}
use Rattle.liquid_strings.proofs.PieceLemmas.{join_by_view}
use Rattle.liquid_strings.proofs.replacement.replace.Goals as goal

pub returns : goal.returns
returns c =
    rw (
      sym c.in_ok-pieces.ensures,
      sym (join_by_view (λ p. p.now) c.args.by.now c.in_ok-pieces.pieces.items),
      sym c.deref.ensures.value,
    ) c.join.ensures.ok
