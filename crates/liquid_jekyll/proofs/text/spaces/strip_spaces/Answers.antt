use Rattle.std.proofs.Common.{◌∙◌, ap, reverse}
use Rattle.std.specs.List.{prefix_len}
use Rattle.liquid_jekyll.specs.meaning.text.CharacterSets.{is_space}
use Rattle.liquid_jekyll.proofs.NumeralLemmas.{ends_words}
use Rattle.liquid_jekyll.proofs.text.spaces.strip_spaces.Goals as goal

pub range-requires-clause-end_boundary : goal.range-requires-clause-end_boundary
range-requires-clause-end_boundary c =
    ends_words c.without_leading-text.result.now c.trailing_length.result
    (c.trailing_length.ensures.value ∙ ap (λ t. prefix_len is_space (reverse t)) c.as_bytes.ensures.value)
