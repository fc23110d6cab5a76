use Rattle.std.proofs.Common.{rules, refl}
use Rattle.page_site.proofs.FrontLemmas.{end_of_end}
use Rattle.page_site.proofs.front.split_at_mark.Goals as goal

pub loop-line-init : goal.loop-line-init
loop-line-init c = record { left = (0, refl); utf8 = search rules }

pub returns-then-eq : goal.returns-then-eq
returns-then-eq c =
    end_of_end c.args.text.now c.loop-line.left.now c.in-Some.rest.now c.loop-line.invariant.left
    (rw c.in-Some.is at c.first_line.ensures.follows)

pub loop-line-preserved : goal.loop-line-preserved
loop-line-preserved c = record {
  left =
      end_of_end c.args.text.now c.loop-line.left.now c.in-Some.rest.now c.loop-line.invariant.left
      (rw c.in-Some.is at c.first_line.ensures.follows);
  utf8 = search rules;
}
