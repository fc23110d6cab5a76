use Rattle.std.proofs.Common.{◌≡◌, ◌++◌, drop, string_bytes}
use Rattle.std.specs.Str.{encode_utf8_all}
use Rattle.liquid_jekyll.specs.meaning.text.Typography.{smart}
use Rattle.liquid_jekyll.proofs.text.typography.smart_text.Given as goal

abbrev pub invariant-loop-at : goal.invariant-loop-at
invariant-loop-at l =
    string_bytes l.smart ++ encode_utf8_all (smart l.taken (drop l.at l.characters)) ≡ encode_utf8_all (smart 0 l.characters)
