use Rattle.std.proofs.Common.{◌≡◌, ◌-◌, ◌+◌, ◌*◌, ◌^◌, ◌<◌, drop}
use Rattle.std.specs.List.{fold, list_all}
use Rattle.liquid_dates.specs.meaning.Flags.{is_digit}
use Rattle.filter_dates.proofs.digits.all_digits.Given as goal

abbrev pub invariant-loop-digit : goal.invariant-loop-digit
invariant-loop-digit l = record {
  digits : list_all is_digit (drop l.digit-index l.digits) ≡ list_all is_digit l.digits;
  number : fold (λ n c. n * 10 + (c - 48)) l.number (drop l.digit-index l.digits) ≡ fold (λ n c. n * 10 + (c - 48)) 0 l.digits;
  small : l.number < 10 ^ l.digit-index;
}
