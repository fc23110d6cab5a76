-- Patterns: a list of items whose joined spellings are the text, or such a list for a beginning and a rest that is
-- refused.
use Rattle.std.specs.Prelude.{
  ◌≡◌,
  ℕ,
  ◌<◌,
  ◌^◌,
  ◌≤◌,
  Bool,
  true,
  false,
  ◌≢◌,
  ◌⊎◌,
  List,
  [],
  ◌∷◌,
  ◌++◌,
  Option,
  Some,
  None,
  Result,
  Ok,
  Err,
  encode_utf8,
  encode_utf8_all,
  String,
  string_bytes,
}
use Rattle.std.specs.List.{list_all}
use Rattle.liquid_dates.specs.declared.date_time.DateTime.{DateTime}
use Rattle.liquid_dates.specs.declared.directive.Directive.{Directive}
use Rattle.liquid_dates.specs.declared.error.DateFormatError.{DateFormatError}
use Rattle.liquid_dates.specs.declared.error.DateFormatError.TheVariants.{
  NoFormatSpecifier,
  NoFormatSpecifierAfterModifier,
  InvalidWidth,
  Memory,
}
use Rattle.liquid_dates.specs.meaning.Flags.{is_flag, flags_of, is_digit, digits_number, width_of, is_modifier}
use Rattle.liquid_dates.specs.meaning.Letters.{directive_of}
use Rattle.liquid_dates.specs.meaning.DirectiveText.{directive_text}
use Rattle.liquid_dates.specs.meaning.Bytes.{colon, percent}

-- a character that is copied, or a per cent with its flags, its width's digits, its modifier and its letter
pub data Item : Type 0 where
  literal : ℕ → Item
  directive : List ℕ → List ℕ → List ℕ → List ℕ → Item

-- the characters of an item
unfoldable pub spelling : Item → List ℕ
spelling (literal c) = c ∷ []
spelling (directive flags digits modifier letter) = percent ∷ (flags ++ (digits ++ (modifier ++ letter)))

-- the text begins with a character that passes
abbrev pub begins : (ℕ → Bool) → List ℕ → Bool
begins p [] = false
begins p (c ∷ cs) = p c

-- a run of characters that pass, as long as possible
pub record IsRun (p : ℕ → Bool) (run rest : List ℕ) : Type 0 where
  pub passes : list_all p run ≡ true
  pub ends : begins p rest ≡ false

-- the modifier: one character if the text has one, otherwise none
abbrev pub IsModifier : List ℕ → List ℕ → Type 0
IsModifier [] rest = begins is_modifier rest ≡ false
IsModifier (c ∷ []) rest = is_modifier c ≡ true
IsModifier (c ∷ d ∷ cs) rest = ⊥

-- the letter: any character, but `:` takes the next character, and a second `:` one more, if there is one
abbrev pub IsLetter : List ℕ → List ℕ → Type 0
IsLetter (c ∷ []) rest = (c ≢ colon) ⊎ (rest ≡ [])
IsLetter (a ∷ b ∷ []) rest = (a ≡ colon) × ((b ≢ colon) ⊎ (rest ≡ []))
IsLetter (a ∷ b ∷ c ∷ []) rest = (a ≡ colon) × (b ≡ colon)
IsLetter _ rest = ⊥

-- the parts of a directive, each as long as it matches, before the rest of the text
pub record IsDirective (flags digits modifier letter rest : List ℕ) : Type 0 where
  pub of_flags : IsRun is_flag flags (digits ++ (modifier ++ (letter ++ rest)))
  pub of_digits : IsRun is_digit digits (modifier ++ (letter ++ rest))
  pub of_width : digits_number digits < 2 ^ 64
  pub of_modifier : IsModifier modifier (letter ++ rest)
  pub of_letter : IsLetter letter rest

-- an item, before the rest of the text
abbrev pub IsItem : Item → List ℕ → Type 0
IsItem (literal c) rest = c ≢ percent
IsItem (directive flags digits modifier letter) rest = IsDirective flags digits modifier letter rest

-- a per cent whose flags and digits end the text
pub record EndsAfterWidth (text : List ℕ) : Type 0 where
  pub flags : List ℕ
  pub digits : List ℕ
  pub is : text ≡ percent ∷ (flags ++ digits)
  pub of_flags : IsRun is_flag flags digits
  pub of_digits : IsRun is_digit digits []

-- a per cent whose modifier ends the text, after a width that is not too great
pub record EndsAfterModifier (text : List ℕ) : Type 0 where
  pub flags : List ℕ
  pub digits : List ℕ
  pub modifier : ℕ
  pub is : text ≡ percent ∷ (flags ++ (digits ++ (modifier ∷ [])))
  pub of_flags : IsRun is_flag flags (digits ++ (modifier ∷ []))
  pub of_digits : IsRun is_digit digits (modifier ∷ [])
  pub of_width : digits_number digits < 2 ^ 64
  pub of_modifier : is_modifier modifier ≡ true

-- a per cent with a width that is too great for a `usize`, and a character after it
pub record HasGreatWidth (text : List ℕ) : Type 0 where
  pub flags : List ℕ
  pub digits : List ℕ
  pub next : ℕ
  pub rest : List ℕ
  pub is : text ≡ percent ∷ (flags ++ (digits ++ (next ∷ rest)))
  pub of_flags : IsRun is_flag flags (digits ++ (next ∷ rest))
  pub of_digits : IsRun is_digit digits (next ∷ rest)
  pub of_width : 2 ^ 64 ≤ digits_number digits

-- a rest that is refused
abbrev pub IsRefused : DateFormatError → List ℕ → Type 0
IsRefused NoFormatSpecifier text = EndsAfterWidth text
IsRefused NoFormatSpecifierAfterModifier text = EndsAfterModifier text
IsRefused InvalidWidth text = HasGreatWidth text
IsRefused Memory text = ⊥

-- how a reading ends: with the text, or with a rest that is refused
abbrev pub IsEnd : Option DateFormatError → List ℕ → Type 0
IsEnd None rest = rest ≡ []
IsEnd (Some e) rest = IsRefused e rest

-- the items joined are the text, up to a rest
unfoldable pub IsFront : List ℕ → List Item → List ℕ → Type 0
IsFront text [] rest = text ≡ rest
IsFront text (i ∷ items) rest =
    (more : List ℕ) × (text ≡ spelling i ++ more) × IsItem i more × IsFront more items rest

-- a reading of a text
abbrev pub IsReading : List ℕ → List Item → Option DateFormatError → Type 0
IsReading text items end = (rest : List ℕ) × IsFront text items rest × IsEnd end rest

-- what an item prints: its directive's text, or its own characters if it has no directive
abbrev pub directive_print : DateTime → Item → Option Directive → List ℕ → List ℕ → List ℕ
directive_print dt item None flags digits = encode_utf8_all (spelling item)
directive_print dt item (Some d) flags digits = directive_text dt (flags_of flags) (width_of digits) d

unfoldable pub item_print : DateTime → Item → List ℕ
item_print dt (literal c) = encode_utf8 c
item_print dt (directive flags digits modifier letter) =
    directive_print dt (directive flags digits modifier letter) (directive_of letter) flags digits

-- what items print in a row
unfoldable pub print : DateTime → List Item → List ℕ
print dt [] = []
print dt (i ∷ items) = item_print dt i ++ print dt items

-- the answer of a reading: its print, or its error
abbrev pub answer_of : DateTime → List Item → Option DateFormatError → Result (List ℕ) DateFormatError
answer_of dt items None = Ok (print dt items)
answer_of dt items (Some e) = Err e

-- what a date time prints for a pattern
abbrev pub FormatsTo : DateTime → List ℕ → Result (List ℕ) DateFormatError → Type 0
FormatsTo dt text answer =
    (items : List Item) × (end : Option DateFormatError) × IsReading text items end × (answer ≡ answer_of dt items end)

-- a fact about an error that is not an out-of-memory error
abbrev pub OnRefusal : DateFormatError → Type 0 → Type 0
OnRefusal Memory P = Unit {0}
OnRefusal NoFormatSpecifier P = P
OnRefusal NoFormatSpecifierAfterModifier P = P
OnRefusal InvalidWidth P = P

-- the result is the answer, or out of memory
abbrev pub IsAnswer : {A : Type 0} → Result (String A) DateFormatError → Result (List ℕ) DateFormatError → Type 0
IsAnswer (Ok s) answer = answer ≡ Ok (string_bytes s)
IsAnswer (Err e) answer = OnRefusal e (answer ≡ Err e)
