-- Numbers and texts padded to a width.
use Rattle.std.specs.Prelude.{
  ℕ,
  ◌+◌,
  ◌-◌,
  nat_lt,
  ◌&&◌,
  Bool,
  true,
  ℤ,
  pos,
  negsuc,
  unsigned_abs,
  List,
  [],
  ◌∷◌,
  ◌++◌,
  length,
  replicate,
  map,
}
use Rattle.std.specs.Char.{to_ascii_uppercase}
use Rattle.std.specs.Fmt.{decimal}
use Rattle.std.specs.Str.{byte}
use Rattle.liquid_dates.specs.declared.flags.Filling.{Filling}
use Rattle.liquid_dates.specs.declared.flags.Filling.TheVariants.{Unset, Zeros, Spaces}
use Rattle.liquid_dates.specs.declared.flags.NumberFilling.{NumberFilling}
use Rattle.liquid_dates.specs.declared.flags.NumberFilling.TheVariants.{SpacesBeforeSign, ZerosAfterSign}
use Rattle.liquid_dates.specs.declared.flags.Case.{Case}
use Rattle.liquid_dates.specs.declared.flags.Case.TheVariants.{Plain, Upper, Change}
use Rattle.liquid_dates.specs.meaning.Bytes.{dash, space}

-- `-` for a negative number
abbrev pub minus : ℤ → List ℕ
minus (pos n) = []
minus (negsuc n) = dash ∷ []

-- the number of characters that a number's sign and digits are short of the width
abbrev pub missing : ℕ → ℤ → ℕ
missing width z = width - (length (minus z) + length (decimal (unsigned_abs z)))

-- a number padded to a width: with spaces before the sign, or with zeros after it
unfoldable pub filled_number : NumberFilling → ℕ → ℤ → List ℕ
filled_number SpacesBeforeSign width z = replicate (missing width z) space ++ (minus z ++ decimal (unsigned_abs z))
filled_number ZerosAfterSign width z = minus z ++ (replicate (missing width z) (byte "0") ++ decimal (unsigned_abs z))

-- a text after the padding up to a width, where it counts as that many characters
unfoldable pub filled_text : ℕ → ℕ → ℕ → List ℕ → List ℕ
filled_text filler width count text = replicate (width - count) filler ++ text

-- what a number is padded with: the last of the flags `_` and `0`, or what its letter says if neither is given
abbrev pub number_filling : Filling → NumberFilling → NumberFilling
number_filling Unset default = default
number_filling Zeros default = ZerosAfterSign
number_filling Spaces default = SpacesBeforeSign

-- what a text is padded with
abbrev pub text_filler : Filling → ℕ
text_filler Unset = space
text_filler Zeros = byte "0"
text_filler Spaces = space

-- a name, in upper case if a flag says so
abbrev pub cased : Case → List ℕ → List ℕ
cased Plain text = text
cased Upper text = map to_ascii_uppercase text
cased Change text = map to_ascii_uppercase text

-- a text of ASCII characters only
abbrev pub is_ascii_text : List ℕ → Bool
is_ascii_text [] = true
is_ascii_text (c ∷ cs) = nat_lt c 128 && is_ascii_text cs
