use Rattle.jekyll_source.specs.steps.Parts.{tag_view}
use Rattle.jekyll_source.proofs.TagLemmas.{fitted_parts}
use Rattle.jekyll_source.proofs.tags.push_fitted.Goals as goal

pub returns : goal.returns
returns c =
    fitted_parts (tag_view c.args.tag.now) c.args.new.now _ _ _ _ _ _ _ _ _ _ _
    (rw c.saturating_sub-grown.ensures at c.shorten_end-tail.ensures.value)
    (rw (c.saturating_sub.ensures, c.saturating_sub-grown.ensures) at c.shorten_start-lead.ensures)
    c.in_ok-push_str.ensures.bytes
    c.in_ok-push_str-2.ensures.bytes
    c.in_ok-push_str-3.ensures.bytes
    c.in_ok-push_str-4.ensures.bytes
    c.in_ok-push_str-5.ensures.bytes
    c.in_ok-push_str-6.ensures.bytes
    (rw c.saturating_sub-2.ensures at c.in_ok-push_spaces.ensures)
    c.in_ok-push_str-7.ensures.bytes
