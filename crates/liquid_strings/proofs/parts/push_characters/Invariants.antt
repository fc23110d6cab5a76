use Rattle.std.proofs.Common.{◌≡◌, ◌++◌, map}
use Rattle.std.specs.Char.{encode_utf8}
use Rattle.std.specs.Str.{chars}
use Rattle.std.specs.Str.Iter.{chars_rest}
use denote.Shadow.{shadow}
use denote.Text.{Utf8}
use Rattle.liquid_strings.proofs.parts.push_characters.Given as goal

abbrev pub invariant-loop-character : goal.invariant-loop-character
invariant-loop-character l = record {
  is_text : shadow (Utf8 l.rest);
  same : l.rest ≡ chars_rest l.character-iterator;
  whole : map (λ p. p.now) l.pieces.items ++ map encode_utf8 (chars l.rest) ≡ map (λ p. p.now) l.fn.pieces.items
      ++ map encode_utf8 (chars l.text);
}
