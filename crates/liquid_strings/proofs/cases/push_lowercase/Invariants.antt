use Rattle.std.proofs.Common.{◌≡◌, ◌++◌, IsUtf8, string_bytes}
use Rattle.std.specs.Char.Iter.{case_mapping_chars, case_mapping_first, case_mapping_second, case_mapping_third}
use Rattle.std.specs.Str.{encode_utf8_all}
use Rattle.std.specs.Str.Iter.{chars_rest}
use Rattle.liquid_strings.specs.meaning.Cases.{lowercased}
use Rattle.liquid_strings.proofs.CharacterSteps.{NoGap}
use Rattle.liquid_strings.proofs.cases.push_lowercase.Given as goal

abbrev pub invariant-loop-character : goal.invariant-loop-character
invariant-loop-character l = record {
  text : IsUtf8 (chars_rest l.character-iterator);
  whole : string_bytes l.to ++ lowercased (chars_rest l.character-iterator) ≡ string_bytes l.fn.to ++ lowercased l.text;
}

abbrev pub invariant-loop-lower : goal.invariant-loop-lower
invariant-loop-lower l = record {
  no_gap : NoGap (case_mapping_first l.lower-iterator) (case_mapping_second l.lower-iterator) (case_mapping_third l.lower-iterator);
  whole : string_bytes l.to ++ encode_utf8_all (case_mapping_chars l.lower-iterator) ≡ string_bytes l.initial.to
      ++ encode_utf8_all (case_mapping_chars l.initial.lower-iterator);
}
