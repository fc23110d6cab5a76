use Rattle.std.proofs.Common.{◌∙◌, sym}
use Rattle.liquid_value.specs.meaning.View.{view as tree_of}
use Rattle.liquid_jekyll.proofs.MomentSteps.{written_by}
use Rattle.liquid_jekyll.proofs.dates.write_moment.Goals as goal

pub returns-in_ok-pattern-in-Some : goal.returns-in_ok-pattern-in-Some
returns-in_ok-pattern-in-Some c =
    let fits = rw c.in-Some.is at c.in_ok-moment.ensures.fits in
    rw (written_by c.args.form c.args.style c.args.now (tree_of c.args.input.now) c.in-Some.moment c.day.result c.as_str.result.now
    (sym c.is_kept.ensures ∙ c.if-is_kept.false) fits c.day.ensures (c.as_str.ensures.value ∙ c.in_ok-pattern-in-Some.ensures))
    c.print_moment.ensures
