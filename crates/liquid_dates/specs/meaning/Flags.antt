-- What is between the per cent of a directive and its letter: flags, a width, a modifier.
use Rattle.std.specs.Prelude.{
  ℕ,
  ◌+◌,
  ◌-◌,
  ◌*◌,
  Bool,
  ◌&&◌,
  ◌||◌,
  ◌==◌,
  nat_le,
  if◌then◌else◌,
  List,
  [],
  ◌∷◌,
  Option,
  Some,
  None,
  fold,
  true,
  false,
  codes,
}
use Rattle.std.specs.Str.{byte}
use Rattle.liquid_dates.specs.declared.flags.Flags.{Flags}
use Rattle.liquid_dates.specs.declared.flags.Filling.TheVariants.{Unset, Zeros, Spaces}
use Rattle.liquid_dates.specs.declared.flags.Case.TheVariants.{Plain, Upper, Change}

-- a character is one of these
abbrev pub is_one_of : List ℕ → ℕ → Bool
is_one_of [] c = false
is_one_of (d ∷ []) c = c == d
is_one_of (d ∷ e ∷ ds) c = (c == d) || is_one_of (e ∷ ds) c

-- a flag
abbrev pub is_flag : ℕ → Bool
is_flag = is_one_of (codes "-_0^#")

-- no flag is given
abbrev pub no_flags : Flags
no_flags = record { unfilled = false; filling = Unset; case = Plain }

-- one more flag: `-` stays set once given, a later `_` or `0` replaces an earlier one, and so do `^` and `#`
abbrev pub with_flag : Flags → ℕ → Flags
with_flag flags c =
    if is_one_of (codes "-") c then record flags { unfilled = true }
    else (if is_one_of (codes "_") c then record flags { filling = Spaces }
    else (if is_one_of (codes "0") c then record flags { filling = Zeros }
    else (if is_one_of (codes "^") c then record flags { case = Upper } else record flags { case = Change })))

-- what all the flags say
unfoldable pub flags_of : List ℕ → Flags
flags_of flags = fold with_flag no_flags flags

-- `0` to `9`
abbrev pub is_digit : ℕ → Bool
is_digit c = nat_le (byte "0") c && nat_le c (byte "9")

-- the number that decimal digits write
unfoldable pub digits_number : List ℕ → ℕ
digits_number digits = fold (λ n c. n * 10 + (c - byte "0")) 0 digits

-- the width that the digits give, if there are any
unfoldable pub width_of : List ℕ → Option ℕ
width_of [] = None
width_of (d ∷ ds) = Some (digits_number (d ∷ ds))

-- a modifier, which changes nothing
abbrev pub is_modifier : ℕ → Bool
is_modifier = is_one_of (codes "EO")
