use Rattle.std.proofs.Common.{◌≡◌, IsUtf8, drop}
use Rattle.std.specs.Str.{chars}
use Rattle.std.specs.Str.Iter.{chars_rest}
use Rattle.liquid_strings.proofs.truncation.rest_after.Given as goal

abbrev pub invariant-loop : goal.invariant-loop
invariant-loop l = record {
  text : IsUtf8 (chars_rest l.rest);
  left : chars (chars_rest l.rest) ≡ drop l.counter (chars l.text);
}
