-- A reader of patterns, item by item. It connects the code to the relation of `Pattern`: what it reads is proved to be
-- what that relation says.
use Rattle.std.specs.Prelude.{ℕ, ◌+◌, ◌-◌, ◌*◌, ◌^◌, Bool, nat_lt, ◌==◌, if◌then◌else◌, List, [], ◌∷◌, ◌++◌, Result, Ok, Err, ◌≡◌}
use Rattle.std.specs.Prelude.{Option, Some, None}
use Rattle.liquid_dates.specs.declared.date_time.DateTime.{DateTime}
use Rattle.liquid_dates.specs.declared.directive.Directive.{Directive}
use Rattle.liquid_dates.specs.meaning.DirectiveText.{directive_text}
use Rattle.liquid_dates.specs.declared.flags.Flags.{Flags}
use Rattle.liquid_dates.specs.declared.pattern.Width.{Width}
use Rattle.liquid_dates.specs.declared.pattern.Width.TheVariants.{Unset, Given, TooGreat}
use Rattle.liquid_dates.specs.declared.pattern.Conversion.{Conversion}
use Rattle.liquid_dates.specs.declared.error.DateFormatError.{DateFormatError}
use Rattle.liquid_dates.specs.declared.error.DateFormatError.TheVariants.{NoFormatSpecifier, NoFormatSpecifierAfterModifier, InvalidWidth}
use Rattle.liquid_dates.specs.meaning.Flags.{is_flag, with_flag, flags_of, is_digit, digits_number, width_of, is_modifier}
use Rattle.std.specs.Str.{chars, IsUtf8}
use Rattle.std.specs.Borrow.{Bor}
use Rattle.std.specs.Str.{byte}
use Rattle.liquid_dates.specs.meaning.Letters.{directive_of}
use Rattle.liquid_dates.specs.meaning.Pattern.{Item, literal, directive, item_print}
use Rattle.liquid_dates.specs.meaning.Bytes.{colon, percent}

-- the characters at the front that pass, and the rest after them
abbrev pub front : (ℕ → Bool) → List ℕ → List ℕ
front p [] = []
front p (c ∷ cs) = if p c then c ∷ front p cs else []

abbrev pub following : (ℕ → Bool) → List ℕ → List ℕ
following p [] = []
following p (c ∷ cs) = if p c then following p cs else c ∷ cs

-- the flags at the front, added to those before
abbrev pub flags_from : Flags → List ℕ → Flags
flags_from flags [] = flags
flags_from flags (c ∷ cs) = if is_flag c then flags_from (with_flag flags c) cs else flags

-- a width as a number of 64 bits
abbrev pub bounded_width : ℕ → Width
bounded_width n = if nat_lt n (2 ^ 64) then Given n else TooGreat

-- a width with one more digit
abbrev pub with_digit : Width → ℕ → Width
with_digit Unset c = Given (c - byte "0")
with_digit (Given n) c = bounded_width (n * 10 + (c - byte "0"))
with_digit TooGreat c = TooGreat

-- the digits at the front, after those before
abbrev pub width_from : Width → List ℕ → Width
width_from width [] = width
width_from width (c ∷ cs) = if is_digit c then width_from (with_digit width c) cs else width

-- the letter at the front: up to three characters after a `:`
abbrev pub after_second_colon : List ℕ → List ℕ
after_second_colon [] = []
after_second_colon (c ∷ cs) = c ∷ []

abbrev pub after_colon : List ℕ → List ℕ
after_colon [] = []
after_colon (c ∷ cs) = if c == colon then colon ∷ after_second_colon cs else c ∷ []

abbrev pub letter_front : ℕ → List ℕ → List ℕ
letter_front c cs = if c == colon then colon ∷ after_colon cs else c ∷ []

-- the rest after it
abbrev pub following_second_colon : List ℕ → List ℕ
following_second_colon [] = []
following_second_colon (c ∷ cs) = cs

abbrev pub following_colon : List ℕ → List ℕ
following_colon [] = []
following_colon (c ∷ cs) = if c == colon then following_second_colon cs else cs

abbrev pub letter_after : ℕ → List ℕ → List ℕ
letter_after c cs = if c == colon then following_colon cs else cs

-- an item and the rest after it, or an error
abbrev pub ItemRead : Type 0
ItemRead = Result (Item × List ℕ) DateFormatError

-- a directive from its letter on
abbrev pub letter_at : List ℕ → List ℕ → List ℕ → ℕ → List ℕ → ItemRead
letter_at flags digits modifier c cs =
    Ok (directive flags digits modifier (letter_front c cs), letter_after c cs)

-- from after its modifier on
abbrev pub after_modifier : List ℕ → List ℕ → ℕ → List ℕ → ItemRead
after_modifier flags digits modifier [] = Err NoFormatSpecifierAfterModifier
after_modifier flags digits modifier (c ∷ cs) = letter_at flags digits (modifier ∷ []) c cs

-- from its modifier on
abbrev pub modifier_at : List ℕ → List ℕ → ℕ → List ℕ → ItemRead
modifier_at flags digits c cs =
    if is_modifier c then after_modifier flags digits c cs else letter_at flags digits [] c cs

-- from after its width on
abbrev pub after_width : List ℕ → List ℕ → List ℕ → ItemRead
after_width flags digits [] = Err NoFormatSpecifier
after_width flags digits (c ∷ cs) =
    if nat_lt (digits_number digits) (2 ^ 64) then modifier_at flags digits c cs else Err InvalidWidth

-- from after its flags on
abbrev pub after_flags : List ℕ → List ℕ → ItemRead
after_flags flags text = after_width flags (front is_digit text) (following is_digit text)

-- from after its per cent on
unfoldable pub directive_at : List ℕ → ItemRead
directive_at text = after_flags (front is_flag text) (following is_flag text)

-- the item at the front of a text that begins with the character
unfoldable pub item_at : ℕ → List ℕ → ItemRead
item_at c cs = if c == percent then directive_at cs else Ok (literal c, cs)

-- what the code keeps of a directive
abbrev pub conversion_of : Item → Conversion → Type 0
conversion_of (literal c) conversion = ⊥
conversion_of (directive flags digits modifier letter) conversion =
    (conversion.flags ≡ flags_of flags) × (conversion.width ≡ width_of digits) × (conversion.directive ≡ directive_of letter)

-- a directive and the text after it are what the reader says
abbrev pub IsReadAs : Result (Conversion × Bor (List ℕ)) DateFormatError → ItemRead → Type 0
IsReadAs (Ok (conversion, rest)) (Ok (item, more)) = conversion_of item conversion × (chars rest.now ≡ more) × IsUtf8 rest.now
IsReadAs (Err e) (Err r) = e ≡ r
IsReadAs _ _ = ⊥

-- what the code prints of a directive
abbrev pub conversion_print : DateTime → Flags → Option ℕ → Option Directive → List ℕ → List ℕ
conversion_print dt flags width None spelling = spelling
conversion_print dt flags width (Some d) spelling = directive_text dt flags width d

-- a text has the rest at its end
abbrev pub HasRest : List ℕ → List ℕ → Type 0
HasRest text rest = (front : List ℕ) × (text ≡ front ++ rest)

-- the item that was read is printed, and the rest after it is left
abbrev pub IsPrinted : DateTime → ItemRead → List ℕ → List ℕ → List ℕ → Type 0
IsPrinted dt (Ok (item, more)) rest old new = (more ≡ rest) × (new ≡ old ++ item_print dt item)
IsPrinted dt (Err e) rest old new = ⊥
