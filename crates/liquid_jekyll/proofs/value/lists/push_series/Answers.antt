use Rattle.std.proofs.Common.{◌∙◌}
use Rattle.std.specs.Prelude.{string_bytes}
use Rattle.liquid_value.specs.meaning.View.{view as tree_of}
use Rattle.liquid_jekyll.proofs.SeriesLemmas.{series_ends}
use Rattle.liquid_jekyll.proofs.value.lists.push_series.Goals as goal

pub returns : goal.returns
returns c =
    c.in_ok-push_last.ensures
    ∙ series_ends c.args.by.now (string_bytes c.loop-item.text) (string_bytes c.args.text.now) (λ r. tree_of r.now) c.args.items.now
    c.in-Some.others.now c.in-Some.last.now _ c.loop-item-test.false c.loop-item.invariant c.in-Some.ensures.cases.0
