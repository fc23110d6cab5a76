-- What the filter `date` prints.
use Rattle.std.proofs.Common.{
  ◌≡◌,
  ◌≢◌,
  inl,
  inr,
  ℕ,
  List,
  [],
  ◌∷◌,
  length,
  nat_eq,
  Bool,
  true,
  false,
  cond,
  Option,
  None,
  Some,
  Result,
  Ok,
  Err,
  refl,
  ap,
  ◌∙◌,
  arith,
}
use Rattle.std.specs.Prelude.{IfSome, codes}
use Rattle.std.specs.Str.{chars}
use Rattle.std.proofs.lemmas.Bool.Decides.{nat_tests}
use Rattle.liquid_dates.specs.declared.date_time.DateTime.{DateTime}
use Rattle.liquid_dates.specs.declared.error.DateFormatError.{DateFormatError}
use Rattle.liquid_dates.specs.declared.error.DateFormatError.TheVariants.{
  NoFormatSpecifier,
  NoFormatSpecifierAfterModifier,
  InvalidWidth,
  Memory,
}
use Rattle.liquid_dates.specs.meaning.Pattern.{FormatsTo, OnRefusal}
use Rattle.liquid_dates.proofs.FormatLemmas.{formats_once}
use Rattle.liquid_dates.proofs.PatternLemmas.{some_reading}
use Rattle.liquid_error.specs.meaning.Refusal.{Refusal}
use Rattle.filter_dates.specs.meaning.Errors.{error_of_pattern}
use Rattle.liquid_value.specs.meaning.Tree.{Tree}
use Rattle.filter_dates.specs.meaning.Moments.{IsMomentOf}
use Rattle.filter_dates.proofs.Deciding.{Decided}
use Rattle.filter_dates.proofs.MomentLemmas.{moment_of, moment_once}
use Rattle.liquid_filters.specs.meaning.Dates.{formatted, printed, printed_by, printed_moment}

-- what a date time prints by a pattern is what it is formatted to
pub formatted_is : (dt : DateTime) (pattern : List ℕ) (answer : Result (List ℕ) DateFormatError) → FormatsTo dt (chars pattern) answer
    → formatted dt pattern ≡ answer
formatted_is dt pattern answer h =
    let r = some_reading (chars pattern) in
    formats_once dt (chars pattern) (formatted dt pattern) answer (r.items, r.end, r.is, refl) h

-- a pattern that can't be printed
pub refused : (dt : DateTime) (pattern : List ℕ) (e : DateFormatError) (o : Option Refusal)
    → OnRefusal e (FormatsTo dt (chars pattern) (Err e)) → IfSome o (λ r. error_of_pattern e pattern ≡ Some r)
    → IfSome o (λ r. printed pattern (formatted dt pattern) ≡ Err r)
refused dt pattern e None h is = tt
refused dt pattern Memory (Some r) h is = cc
refused dt pattern NoFormatSpecifier (Some r) h is = ap (printed pattern) (formatted_is dt pattern (Err NoFormatSpecifier) h) ∙ cc
refused dt pattern NoFormatSpecifierAfterModifier (Some r) h is =
    ap (printed pattern) (formatted_is dt pattern (Err NoFormatSpecifierAfterModifier) h) ∙ cc
refused dt pattern InvalidWidth (Some r) h is = ap (printed pattern) (formatted_is dt pattern (Err InvalidWidth) h) ∙ cc

-- what is printed for the moment that an input means
moment_printed : (now : Option DateTime) (t : Tree) (pattern : List ℕ) (dt : DateTime) (d : Decided (IsMomentOf now t))
    → IsMomentOf now t dt → printed_moment {P = IsMomentOf now t} t pattern d ≡ printed pattern (formatted dt pattern)
moment_printed now t pattern dt (inl (e, k)) h = ap (λ x. printed pattern (formatted x pattern)) (moment_once now t e dt k h)
moment_printed now t pattern dt (inr none) h = absurd (none dt h)

pub printed_of : (now : Option DateTime) (t : Tree) (pattern : List ℕ) (dt : DateTime) → nat_eq (length pattern) 0 ≡ false
    → IsMomentOf now t dt → printed_by now t pattern ≡ printed pattern (formatted dt pattern)
printed_of now t pattern dt e h = rw e (moment_printed now t pattern dt (moment_of now t) h)

-- an input that means no moment is kept
none_printed : (now : Option DateTime) (t : Tree) (pattern : List ℕ) (d : Decided (IsMomentOf now t))
    → ((dt : DateTime) → ¬ (IsMomentOf now t dt)) → printed_moment {P = IsMomentOf now t} t pattern d ≡ Ok t
none_printed now t pattern (inl (e, k)) none = absurd (none e k)
none_printed now t pattern (inr _) none = refl

pub kept_of : (now : Option DateTime) (t : Tree) (pattern : List ℕ) (b : Bool) → ((dt : DateTime) → ¬ (IsMomentOf now t dt))
    → cond b (Ok t) (printed_moment {P = IsMomentOf now t} t pattern (moment_of now t)) ≡ Ok t
kept_of now t pattern true none = refl
kept_of now t pattern false none = none_printed now t pattern (moment_of now t) none

pub not_empty : (bytes : List ℕ) → bytes ≢ [] → nat_eq (length bytes) 0 ≡ false
not_empty [] full = absurd (full refl)
not_empty (b ∷ bs) full = grind (arith, nat_tests)
