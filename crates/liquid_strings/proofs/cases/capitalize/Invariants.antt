use Rattle.std.proofs.Common.{◌≡◌, ◌++◌, string_bytes}
use Rattle.std.specs.Char.Iter.{case_mapping_chars, case_mapping_first, case_mapping_second, case_mapping_third}
use Rattle.std.specs.Str.{encode_utf8_all}
use Rattle.liquid_strings.proofs.CharacterSteps.{NoGap}
use Rattle.liquid_strings.proofs.cases.capitalize.Given as goal

abbrev pub invariant-loop-character : goal.invariant-loop-character
invariant-loop-character l = record {
  no_gap : NoGap (case_mapping_first l.character-iterator) (case_mapping_second l.character-iterator)
      (case_mapping_third l.character-iterator);
  whole : string_bytes l.capitalized ++ encode_utf8_all (case_mapping_chars l.character-iterator) ≡ encode_utf8_all
      (case_mapping_chars l.initial.character-iterator);
}
