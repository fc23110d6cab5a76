use Rattle.std.proofs.Common.{sym, ◌∙◌}
use Rattle.liquid_std.proofs.CycleLemmas.{name_taken, other_token}
use Rattle.liquid_std.proofs.cycle.take_name.Goals as goal

pub returns-then-eq : goal.returns-then-eq
returns-then-eq c = λ ts are.
    let one = c.in_ok-name.ensures.value ts are in
    let two = c.in_ok-colon.ensures.value one.0.1 one.2.left in (
      (one.0.0, two.0.1),
      name_taken ts one.0 two.0 _ one.1 two.1 (c.as_str.ensures two.0.0 two.2.token_is)
          (sym c.eq.ensures ∙ c.if-eq.true),
      record { token_is = one.2.token_is; left = two.2.left },
    )

pub returns-else-eq : goal.returns-else-eq
returns-else-eq c = λ ts are.
    let one = c.in_ok-name.ensures.value ts are in
    let two = c.in_ok-colon.ensures.value one.0.1 one.2.left in
    (other_token ts one.0 two.0 _ one.1 two.1 (c.as_str.ensures two.0.0 two.2.token_is) (sym c.eq.ensures ∙ c.if-eq.false), are)
