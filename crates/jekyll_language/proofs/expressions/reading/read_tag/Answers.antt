use Rattle.std.proofs.Common.{Ok, Err, sym, subst}
use Rattle.liquid_error.specs.meaning.Told.{Gives}
use Rattle.liquid_parser.specs.meaning.Plugins.{AreTokens}
use Rattle.liquid_std.specs.meaning.conditions.Conditions.{condition_of}
use Rattle.liquid_std.specs.meaning.conditions.ConditionsGiven.{condition_given}
use Rattle.jekyll_language.proofs.WholeTagLemmas.{tag_is_read}
use Rattle.jekyll_language.proofs.expressions.reading.read_tag.Goals as goal

pub returns-in-Ok : goal.returns-in-Ok
returns-in-Ok c =
    let read = tag_is_read condition_given c.args.source.now (Ok c.in-Ok.tag) c.in-Ok.ensures.tag c.in-Ok.ensures.none in
    subst (λ m. Gives condition_of c.read_condition.result m) (sym read.2)
    (c.read_condition.ensures read.0 (subst (λ t. AreTokens t read.0) (sym c.into_tokens.ensures) read.1))

pub returns-in-Err : goal.returns-in-Err
returns-in-Err c = tag_is_read condition_given c.args.source.now (Err c.in-Err.error) c.in-Err.ensures.tag c.in-Err.ensures.none
