use Rattle.std.proofs.Common.{◌≡◌, ◌++◌, ◌∙◌, ap, sym}
use Rattle.std.specs.Prelude.{encode_utf8}
use Rattle.std.proofs.lemmas.Str.{chars_past_char}
use Rattle.liquid_dates.proofs.CharLemmas.{chars_of_empty}
use Rattle.liquid_dates.proofs.pattern.split_first.Goals as goal

pub returns-in-Some-clause-cases : goal.returns-in-Some-clause-cases
returns-in-Some-clause-cases c =
    let text : c.args.text.now ≡ encode_utf8 c.in-Some.first ++ c.as_str.result.now = sym c.chars-characters.ensures.rest
    ∙ c.in-Some.ensures.steps.0 ∙ ap (λ r. encode_utf8 c.in-Some.first ++ r) (sym c.as_str.ensures) in
    chars_past_char c.args.text.now c.as_str.result.now c.in-Some.first c.utf8.text text

pub returns-in-None-clause-cases : goal.returns-in-None-clause-cases
returns-in-None-clause-cases c =
    chars_of_empty c.args.text.now (rw c.chars-characters.ensures.rest at c.in-None.ensures.steps.0.0)
