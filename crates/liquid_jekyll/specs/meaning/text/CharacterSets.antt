-- Sets of characters.
use Rattle.std.specs.Prelude.{ℕ, Bool, not, ◌==◌, ◌&&◌, ◌||◌, nat_le, codes}
use Rattle.std.specs.Char.{is_ascii_alphanumeric}
use Rattle.std.specs.List.{list_any}
use Rattle.ucd_category.specs.GeneralCategory.{general_category, general_category_eq}
use Rattle.ucd_category.specs.GeneralCategoryGroup.{in_group}
use Rattle.ucd_category.specs.declared.GeneralCategory.TheVariants.{ConnectorPunctuation, DecimalNumber}
use Rattle.ucd_category.specs.declared.GeneralCategoryGroup.TheVariants.{Letter, Mark}
use Rattle.ucd_script.specs.Script.{script, script_eq}
use Rattle.ucd_script.specs.declared.Script.TheVariants.{Han, Hangul, Hiragana, Katakana}
use Rattle.liquid_jekyll.specs.declared.text.character_sets.CharacterSet.{CharacterSet}
use Rattle.liquid_jekyll.specs.declared.text.character_sets.CharacterSet.TheVariants.{
  WhiteSpace,
  BetweenWords,
  BetweenPretty,
  BetweenAscii,
  Printed,
  Western,
}

-- whitespace of ASCII: a space, or a tab, line feed, vertical tab, form feed or carriage return
abbrev pub is_space : ℕ → Bool
is_space c = c == 32 || (nat_le 9 c && nat_le c 13)

-- a letter, a mark or a decimal digit of any script
abbrev pub is_letter_or_digit : ℕ → Bool
is_letter_or_digit c =
    in_group Letter (general_category c) || (in_group Mark (general_category c)
    || general_category_eq (general_category c) DecimalNumber)

-- what words are made of: these, and connectors such as `_`
abbrev pub is_word : ℕ → Bool
is_word c = is_letter_or_digit c || general_category_eq (general_category c) ConnectorPunctuation

-- the marks that a pretty slug keeps
abbrev pub is_pretty_mark : ℕ → Bool
is_pretty_mark c = list_any (λ mark. mark == c) (codes "._~!$&'()+,;=@")

-- a character of the scripts that write no spaces between words
abbrev pub is_east_asian : ℕ → Bool
is_east_asian c =
    script_eq (script c) Han || (script_eq (script c) Katakana || (script_eq (script c) Hiragana || script_eq (script c) Hangul))

-- whether a set has a character
abbrev pub contains : CharacterSet → ℕ → Bool
contains WhiteSpace c = is_space c
contains BetweenWords c = not (is_letter_or_digit c)
contains BetweenPretty c = not (is_letter_or_digit c || is_pretty_mark c)
contains BetweenAscii c = not (is_ascii_alphanumeric c)
contains Printed c = not (is_space c)
contains Western c = not (is_space c || is_east_asian c)
