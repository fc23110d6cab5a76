use Rattle.std.proofs.Common.{◌∙◌, sym}
use Rattle.jekyll_source.proofs.RewritingLemmas.{new_written, no_end, unwritable}
use Rattle.jekyll_source.proofs.rewriting.new_body.Goals as goal

pub returns-in_default : goal.returns-in_default
returns-in_default c =
    no_end c.args.tag.now c.args.body.now (sym c.has_name.ensures ∙ c.if-not-has_name.false) c.in_default.ensures

pub returns-in_ok-push_rest-in-Some-2 : goal.returns-in_ok-push_rest-in-Some-2
returns-in_ok-push_rest-in-Some-2 c =
    new_written c.args.tag.now c.args.body.now (sym c.has_name.ensures ∙ c.if-not-has_name.false) c.in-Some.name.now c.in-Some.rest.now
    c.in-Some.ensures _ _ (rw c.in-Some-2.is at c.in_ok-written.ensures) c.in_ok-push_rest-in-Some-2.ensures

pub returns-in-None : goal.returns-in-None
returns-in-None c =
    unwritable c.args.tag.now c.args.body.now (sym c.has_name.ensures ∙ c.if-not-has_name.false) c.in-Some.name.now c.in-Some.rest.now
    c.in-Some.ensures (rw c.in-None.is at c.in_ok-written.ensures)
