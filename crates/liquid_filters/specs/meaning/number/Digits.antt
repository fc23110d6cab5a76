-- How many digits a number has after the point, as an argument says it.
use Rattle.std.specs.Prelude.{ℕ, ℤ, pos, negsuc, nat_le, Result, Ok, Err, if◌then◌else◌}
use Rattle.liquid_decimals.specs.meaning.Dec.{greatest_scale}
use Rattle.liquid_error.specs.meaning.Refusal.{Refusal, ok_then}
use Rattle.liquid_value.specs.meaning.Tree.{Tree}
use Rattle.liquid_filters.specs.meaning.value.Errors.{digits_past_limit, past_limit}
use Rattle.liquid_filters.specs.meaning.value.Numbers.{whole}

-- an integer from 0 to 18
abbrev pub scale_of : ℤ → Result ℕ Refusal
scale_of (pos n) = if nat_le n greatest_scale then Ok n else Err past_limit
scale_of (negsuc n) = Err digits_past_limit

abbrev pub scale : Tree → Result ℕ Refusal
scale t = ok_then (whole t) scale_of
