use Rattle.std.proofs.Common.{◌≡◌, ◌++◌, drop, take}
use Rattle.liquid_jekyll.specs.meaning.text.Index.{index_stripped}
use Rattle.liquid_jekyll.proofs.text.index.index_range.Given as goal

abbrev pub invariant-loop-at : goal.invariant-loop-at
invariant-loop-at l = index_stripped l.text ≡ take l.at l.text ++ index_stripped (drop l.at l.text)
