-- What is in a set of parts.
use Rattle.std.proofs.Common.{◌≡◌, Bool, true, false, ◌||◌, refl}
use Rattle.std.proofs.lemmas.Bool.{false≢true}
use Rattle.liquid_explain.specs.declared.part.Part.{Part}
use Rattle.liquid_explain.specs.declared.part.Part.TheVariants.{
  TagName,
  FilterName,
  Member,
  Value,
  EndQuote,
  CloseBracket,
  Dots,
  CloseParen,
  Colon,
  Comma,
  Bar,
  Token,
  Closer,
}
use Rattle.liquid_explain.specs.declared.part.Parts.{Parts}
use Rattle.liquid_explain.specs.meaning.Parts.{has, set_of, same, only, union}

pub has_set_of : (p : Part → Bool) (part : Part) → has (set_of p) part ≡ p part
has_set_of p TagName = refl
has_set_of p FilterName = refl
has_set_of p Member = refl
has_set_of p Value = refl
has_set_of p EndQuote = refl
has_set_of p CloseBracket = refl
has_set_of p Dots = refl
has_set_of p CloseParen = refl
has_set_of p Colon = refl
has_set_of p Comma = refl
has_set_of p Bar = refl
has_set_of p Token = refl
has_set_of p Closer = refl

pub same_as_itself : (part : Part) → same part part ≡ true
same_as_itself TagName = refl
same_as_itself FilterName = refl
same_as_itself Member = refl
same_as_itself Value = refl
same_as_itself EndQuote = refl
same_as_itself CloseBracket = refl
same_as_itself Dots = refl
same_as_itself CloseParen = refl
same_as_itself Colon = refl
same_as_itself Comma = refl
same_as_itself Bar = refl
same_as_itself Token = refl
same_as_itself Closer = refl

pub same_are_equal : (a b : Part) → same a b ≡ true → b ≡ a
same_are_equal TagName TagName e = refl
same_are_equal FilterName FilterName e = refl
same_are_equal Member Member e = refl
same_are_equal Value Value e = refl
same_are_equal EndQuote EndQuote e = refl
same_are_equal CloseBracket CloseBracket e = refl
same_are_equal Dots Dots e = refl
same_are_equal CloseParen CloseParen e = refl
same_are_equal Colon Colon e = refl
same_are_equal Comma Comma e = refl
same_are_equal Bar Bar e = refl
same_are_equal Token Token e = refl
same_are_equal Closer Closer e = refl
same_are_equal _ _ e = absurd (false≢true e)
