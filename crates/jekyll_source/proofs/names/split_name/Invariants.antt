use Rattle.std.proofs.Common.{◌≡◌, ◌+◌, drop, false}
use Rattle.std.specs.Option.{option_map}
use Rattle.jekyll_source.specs.meaning.Names.{name_len}
use Rattle.jekyll_source.proofs.names.split_name.Given as goal

abbrev pub invariant-loop-at : goal.invariant-loop-at
invariant-loop-at l = name_len false l.text ≡ option_map (λ n. l.at + n) (name_len l.inside (drop l.at l.text))
