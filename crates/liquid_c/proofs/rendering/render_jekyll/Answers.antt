use Rattle.std.proofs.Common.{rules, refl}
use Rattle.liquid_c.proofs.JekyllLemmas.{comes_as_read}
use Rattle.liquid_c.proofs.LeavesLemmas.{nothing_left}
use Rattle.liquid_c.proofs.rendering.render_jekyll.Goals as goal

pub returns-in_default : goal.returns-in_default
returns-in_default c = λ shown comes. nothing_left shown _ _ _ c.refusal.ensures refl

pub returns-in_default-lend_partials : goal.returns-in_default-lend_partials
returns-in_default-lend_partials c = λ shown comes. nothing_left shown _ _ _ c.refusal-in_default-lend_partials.ensures refl

pub returns : goal.returns
returns c = λ shown comes. c.render_in.ensures shown (comes_as_read _ _ _ _ shown _ _ _ _ (search rules) (search rules) comes)
