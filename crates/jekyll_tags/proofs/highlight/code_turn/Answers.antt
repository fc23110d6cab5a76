use Rattle.std.proofs.Common.{ap, ◌∙◌}
use Rattle.jekyll_tags.specs.meaning.Highlights.{figure, highlight_of}
use Rattle.jekyll_tags.proofs.HighlightLemmas.{code_written}
use Rattle.jekyll_tags.proofs.highlight.code_turn.Goals as goal

pub returns : goal.returns
returns g c =
    let language = ap (λ l. figure l c.args.code.now) c.as_str.ensures.value in
    code_written (highlight_of c.args.block.now) c.args.code.now (g.R.Runtime.view c.args.runtime.now) _ _ _ _ _ c.in_ok-text.ensures
    (c.as_str-2.ensures.value ∙ (c.in_ok-figure.ensures ∙ language)) (c.as_str-3.ensures.value ∙ c.in_ok-suffix.ensures)
    c.in_ok-push_str.ensures.bytes c.in_ok-push_str-2.ensures.bytes
