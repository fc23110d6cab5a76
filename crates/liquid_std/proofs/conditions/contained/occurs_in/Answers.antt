use Rattle.std.proofs.Common.{ap, ◌∙◌}
use Rattle.std.specs.Prelude.{is_some}
use Rattle.memchr.proofs.lemmas.ValueLemmas.{FindsNeedle-value}
use Rattle.liquid_std.proofs.conditions.contained.occurs_in.Goals as goal

pub returns : goal.returns
returns c =
    let found = rw (c.as_bytes.ensures.value, c.as_bytes-2.ensures.value) at c.find.ensures in
    c.is_some.ensures ∙ ap is_some (FindsNeedle-value c.args.text.now c.args.search.now c.find.result found)
