use Rattle.std.proofs.Common.{◌≡◌, ◌+◌, drop, false}
use Rattle.std.specs.Option.{option_map}
use Rattle.jekyll_source.specs.meaning.Parameters.{quoted_len}
use Rattle.jekyll_source.specs.steps.Parts.{quote_byte}
use Rattle.jekyll_source.proofs.parameters.split_quoted.Given as goal

abbrev pub invariant-loop-at : goal.invariant-loop-at
invariant-loop-at l =
    quoted_len (quote_byte l.quote) false l.text ≡ option_map (λ n. l.at + n) (quoted_len (quote_byte l.quote) l.escaped (drop l.at l.text))
