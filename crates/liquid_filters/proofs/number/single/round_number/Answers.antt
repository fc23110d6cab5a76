use Rattle.std.proofs.Common.{◌≡◌, true, sym, ◌∙◌, to_z, of_z, w64, arith}
use Rattle.std.proofs.lemmas.Int.{ints}
use Rattle.liquid_decimals.specs.meaning.Dec.{dec}
use Rattle.liquid_filters.specs.meaning.value.Decimals.{is_whole}
use Rattle.liquid_filters.proofs.RoundingLemmas.{whole_rounded}
use Rattle.liquid_filters.proofs.number.single.round_number.Goals as goal

pub returns-then-is_whole : goal.returns-then-is_whole
returns-then-is_whole c =
    let whole : is_whole (dec c.args.number) ≡ true = sym c.is_whole.ensures ∙ c.if-is_whole.true in
    let mantissa : to_z w64 (of_z w64 c.mantissa.result) ≡ c.args.number.mantissa = omega (arith, ints) in
    let digits : to_z w64 (of_z w64 c.args.digits) ≡ c.args.digits = omega (arith, ints) in
    rw (whole_rounded (dec c.args.number) c.args.digits whole) (rw (mantissa, digits) at c.round_whole.ensures)
