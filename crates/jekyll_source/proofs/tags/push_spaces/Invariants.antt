use Rattle.std.proofs.Common.{◌≡◌, ◌-◌, ◌++◌, replicate, string_bytes}
use Rattle.jekyll_source.proofs.tags.push_spaces.Given as goal

abbrev pub invariant-loop-index : goal.invariant-loop-index
invariant-loop-index l = string_bytes l.out ++ replicate (l.count - l._index) 32 ≡ string_bytes l.fn.out ++ replicate l.count 32
