-- Sets of parts.
use Rattle.std.specs.Prelude.{Bool, true, false, ◌||◌}
use Rattle.liquid_explain.specs.declared.part.Part.{Part}
use Rattle.liquid_explain.specs.declared.part.Part.TheVariants.{
  TagName,
  FilterName,
  Member,
  Value,
  EndQuote,
  CloseBracket,
  Dots,
  CloseParen,
  Colon,
  Comma,
  Bar,
  Token,
  Closer,
}
use Rattle.liquid_explain.specs.declared.part.Parts.{Parts}

-- whether the part is in the set
abbrev pub has : Parts → Part → Bool
has parts TagName = parts.tag_name
has parts FilterName = parts.filter_name
has parts Member = parts.member
has parts Value = parts.value
has parts EndQuote = parts.end_quote
has parts CloseBracket = parts.close_bracket
has parts Dots = parts.dots
has parts CloseParen = parts.close_paren
has parts Colon = parts.colon
has parts Comma = parts.comma
has parts Bar = parts.bar
has parts Token = parts.token
has parts Closer = parts.closer

-- the set whose members pass the test
abbrev pub set_of : (Part → Bool) → Parts
set_of p = record {
  tag_name = p TagName;
  filter_name = p FilterName;
  member = p Member;
  value = p Value;
  end_quote = p EndQuote;
  close_bracket = p CloseBracket;
  dots = p Dots;
  close_paren = p CloseParen;
  colon = p Colon;
  comma = p Comma;
  bar = p Bar;
  token = p Token;
  closer = p Closer;
}

-- the parts that are in one of two sets
abbrev pub union : Parts → Parts → Parts
union a b = set_of (λ part. has a part || has b part)

abbrev pub same : Part → Part → Bool
same TagName TagName = true
same FilterName FilterName = true
same Member Member = true
same Value Value = true
same EndQuote EndQuote = true
same CloseBracket CloseBracket = true
same Dots Dots = true
same CloseParen CloseParen = true
same Colon Colon = true
same Comma Comma = true
same Bar Bar = true
same Token Token = true
same Closer Closer = true
same _ _ = false

-- the set of one part
abbrev pub only : Part → Parts
only part = set_of (same part)
