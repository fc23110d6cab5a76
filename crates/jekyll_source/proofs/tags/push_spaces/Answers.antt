use Rattle.std.proofs.Common.{◌≡◌, ◌-◌, ◌++◌, ap, append-nil, arith, replicate, string_bytes, sym, ◌∙◌}
use Rattle.jekyll_source.proofs.TagLemmas.{space_more}
use Rattle.jekyll_source.proofs.tags.push_spaces.Goals as goal

pub loop-index-preserved : goal.loop-index-preserved
loop-index-preserved c =
    rw c.in_ok-push_str.ensures.bytes (space_more _ _ 32 c.args.count c.loop-index._index (omega arith) c.loop-index.invariant)

pub returns : goal.returns
returns c =
    let none : c.args.count - c.loop-index._index ≡ 0 = omega arith in
    sym (append-nil (string_bytes c.loop-index.out))
    ∙ ap (λ k. string_bytes c.loop-index.out ++ replicate k 32) (sym none) ∙ c.loop-index.invariant
