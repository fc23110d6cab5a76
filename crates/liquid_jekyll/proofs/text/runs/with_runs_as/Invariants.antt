use Rattle.std.proofs.Common.{◌≡◌, ◌++◌, IsUtf8, string_bytes}
use Rattle.std.specs.Str.{chars, encode_utf8_all}
use Rattle.std.specs.Str.Iter.{chars_rest}
use Rattle.liquid_jekyll.specs.meaning.text.CharacterSets.{contains}
use Rattle.liquid_jekyll.specs.meaning.text.Runs.{with_runs_as}
use Rattle.liquid_jekyll.proofs.RunLemmas.{unwritten}
use Rattle.liquid_jekyll.proofs.text.runs.with_runs_as.Given as goal

abbrev pub invariant-loop-character : goal.invariant-loop-character
invariant-loop-character l = record {
  text : IsUtf8 (chars_rest l.character-iterator);
  whole : string_bytes l.replaced ++ encode_utf8_all (unwritten l.in_run l.by (contains l.set) (chars (chars_rest l.character-iterator)))
      ≡ encode_utf8_all (with_runs_as (contains l.set) l.by (chars l.text));
}
