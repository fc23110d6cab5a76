use Rattle.std.proofs.Common.{rules, ◌∙◌}
use Rattle.liquid_c.proofs.JekyllLemmas.{comes_as_read}
use Rattle.liquid_c.proofs.LeavesLemmas.{nothing_left}
use Rattle.liquid_c.proofs.TurnLemmas.{all_leave}
use Rattle.liquid_c.proofs.each.render_each_jekyll.Goals as goal

pub returns-in_default : goal.returns-in_default
returns-in_default c =
    all_leave (λ globals old new o left shown comes. nothing_left shown old new o (left.0 ∙ c.refusal.ensures) left.1)
    (c.refuse_each.ensures c.args.out.now)

pub returns-in_default-lend_partials : goal.returns-in_default-lend_partials
returns-in_default-lend_partials c =
    all_leave (λ globals old new o left shown comes. nothing_left shown old new o
    (left.0 ∙ c.refusal-in_default-lend_partials.ensures) left.1)
    (c.refuse_each-in_default-lend_partials.ensures c.args.out.now)

pub returns : goal.returns
returns c =
    all_leave (λ globals old new o leaves shown comes.
    leaves shown (comes_as_read _ _ _ _ shown _ _ _ _ (search rules) (search rules) comes))
    c.render_each_in.ensures
