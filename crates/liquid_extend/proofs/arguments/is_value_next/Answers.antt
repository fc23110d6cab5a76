use Rattle.std.proofs.Common.{◌≡◌, codes, sym, ap, ◌∙◌, rules}
use Rattle.std.specs.Prelude.{◌&&◌, bytes_eq, not}
use Rattle.liquid_extend.specs.meaning.Arguments.{is_colon}
use Rattle.liquid_extend.specs.steps.Reading.{is_value_next}
use Rattle.liquid_extend.proofs.ArgumentLemmas.{next_decides}
use Rattle.liquid_parser.proofs.NextLemmas.{no_token}
use Rattle.liquid_extend.proofs.arguments.is_value_next.Goals as goal

pub returns-then-takes_values : goal.returns-then-takes_values
returns-then-takes_values c ts at =
    let given = c.in-Some.ensures.value ts at in
    let apart : c.ne.result ≡ not (bytes_eq c.as_str.result.now (codes ":")) = search rules in
    apart ∙ ap (λ x. not (bytes_eq x (codes ":"))) (c.as_str.ensures given.0.0 given.2.token_is)
    ∙ sym (ap (λ b. b && not (is_colon given.0.0)) c.if-takes_values.true) ∙ sym (next_decides c.args.takes_values ts.left given.0 given.1)

pub returns-in-None : goal.returns-in-None
returns-in-None c ts at = sym (ap (is_value_next c.args.takes_values) (no_token ts.left (c.in-None.ensures.value ts at).0))
