use Rattle.std.proofs.Common.{◌∙◌}
use Rattle.liquid_std.specs.meaning.conditions.Conditions.{condition_of}
use Rattle.liquid_std.specs.meaning.conditions.ConditionsGiven.{condition_given}
use Rattle.jekyll_language.specs.meaning.expressions.Reading.{if_tag}
use Rattle.jekyll_language.proofs.WholeTagLemmas.{read_of_source}
use Rattle.jekyll_language.proofs.expressions.reading.condition_in.Goals as goal

pub returns : goal.returns
returns c =
    read_of_source condition_of condition_given if_tag c.args.text.now c.as_str.result.now c.read_tag.result c.if_read.result
    (c.as_str.ensures.value ∙ c.in_ok-source.ensures) c.read_tag.ensures c.if_read.ensures
