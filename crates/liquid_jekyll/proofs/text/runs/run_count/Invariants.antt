use Rattle.std.proofs.Common.{◌≡◌, ◌+◌, ◌≤◌, IsUtf8, length}
use Rattle.std.specs.Str.{chars}
use Rattle.std.specs.Str.Iter.{chars_rest}
use Rattle.liquid_jekyll.specs.meaning.text.CharacterSets.{contains}
use Rattle.liquid_jekyll.specs.meaning.text.Runs.{run_count}
use Rattle.liquid_jekyll.proofs.RunLemmas.{counted}
use Rattle.liquid_jekyll.proofs.text.runs.run_count.Given as goal

abbrev pub invariant-loop-character : goal.invariant-loop-character
invariant-loop-character l = record {
  text : IsUtf8 (chars_rest l.character-iterator);
  room : l.count + length (chars (chars_rest l.character-iterator)) ≤ length l.text;
  whole : l.count + run_count (contains l.set) (chars (chars_rest l.character-iterator))
      ≡ run_count (contains l.set) (chars l.text) + counted l.in_run (contains l.set) (chars (chars_rest l.character-iterator));
}
