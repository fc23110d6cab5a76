use Rattle.std.proofs.Common.{◌≡◌, ◌++◌, IsUtf8, string_bytes}
use Rattle.std.specs.List.{flat_map}
use Rattle.std.specs.Str.{chars, encode_utf8_all}
use Rattle.std.specs.Str.Iter.{chars_rest}
use Rattle.liquid_jekyll.specs.meaning.text.Latin.{ascii_of}
use Rattle.liquid_jekyll.proofs.text.latin.in_ascii.Given as goal

abbrev pub invariant-loop-character : goal.invariant-loop-character
invariant-loop-character l = record {
  text : IsUtf8 (chars_rest l.character-iterator);
  whole : string_bytes l.ascii ++ encode_utf8_all (flat_map ascii_of (chars (chars_rest l.character-iterator)))
      ≡ encode_utf8_all (flat_map ascii_of (chars l.text));
}
