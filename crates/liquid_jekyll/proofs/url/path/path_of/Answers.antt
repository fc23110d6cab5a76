use Rattle.std.proofs.Common.{◌∙◌, sym, string_bytes}
use Rattle.liquid_jekyll.proofs.CutLemmas.{joined}
use Rattle.liquid_jekyll.proofs.url.path.path_of.Goals as goal

pub returns-else-is_empty : goal.returns-else-is_empty
returns-else-is_empty c =
    rw (sym (joined (λ s. string_bytes s) c.args.segments.now c.first-item.result c.in-len1-up.len_at_least c.first-item.is
    (rw c.as_str.ensures.value at (sym c.is_empty.ensures ∙ c.if-is_empty.false)))) c.join.ensures.ok
