use Rattle.std.proofs.Common.{◌∙◌, ap}
use Rattle.std.specs.List.{prefix_len}
use Rattle.liquid_jekyll.specs.meaning.text.CharacterSets.{is_space}
use Rattle.liquid_jekyll.proofs.NumeralLemmas.{starts_words}
use Rattle.liquid_jekyll.proofs.text.spaces.without_leading.Goals as goal

pub range_from-requires : goal.range_from-requires
range_from-requires c =
    λ _. starts_words c.args.text.now c.leading_length.result c.utf8.text
    (c.leading_length.ensures.value ∙ ap (prefix_len is_space) c.as_bytes.ensures.value)
