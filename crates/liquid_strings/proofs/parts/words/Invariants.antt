use Rattle.std.proofs.Common.{◌≡◌, ◌++◌, IsUtf8, map}
use Rattle.std.specs.Str.Iter.{split_whitespace_rest}
use Rattle.liquid_strings.specs.meaning.Split.{words}
use Rattle.liquid_strings.proofs.parts.words.Given as goal

abbrev pub invariant-loop-word : goal.invariant-loop-word
invariant-loop-word l = record {
  text : IsUtf8 (split_whitespace_rest l.word-iterator);
  whole : map (λ p. p.now) l.words.items ++ words (split_whitespace_rest l.word-iterator) ≡ words l.text;
}
