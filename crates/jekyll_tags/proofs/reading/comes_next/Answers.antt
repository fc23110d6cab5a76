use Rattle.std.proofs.Common.{◌≡◌, ◌∙◌, rules}
use Rattle.std.specs.Prelude.{bytes_eq}
use Rattle.jekyll_tags.proofs.PartLemmas.{next_is, none_next}
use Rattle.jekyll_tags.proofs.reading.comes_next.Goals as goal

pub returns-in-Some : goal.returns-in-Some
returns-in-Some c ts at =
    let given = c.in-Some.ensures.value ts at in
    let is : c.eq.result ≡ bytes_eq c.as_str.result.now c.args.text.now = search rules in
    is ∙ next_is c.args.text.now ts.left given.0 _ given.1 (c.as_str.ensures given.0.0 given.2.token_is)

pub returns-in-None : goal.returns-in-None
returns-in-None c ts at = none_next c.args.text.now ts.left (c.in-None.ensures.value ts at).0
