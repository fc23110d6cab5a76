use Rattle.std.proofs.Common.{◌≡◌, ap, sym, ◌∙◌, true, false, codes}
use Rattle.std.specs.Prelude.{◌&&◌, bytes_eq}
use Rattle.std.proofs.lemmas.Result.{err_from_is_err_and}
use Rattle.liquid_error.specs.meaning.Told.{told}
use Rattle.liquid_parser.specs.meaning.Handed.{expect_identifier}
use Rattle.jekyll_tags.proofs.HighlightLemmas.{name_refused, name_taken, value_refused, value_taken}
use Rattle.liquid_parser.proofs.NextLemmas.{token_taken, token_refused}
use Rattle.jekyll_tags.proofs.highlight.read_option.Goals as goal

pub returns-then-gives_value-clause-value : goal.returns-then-gives_value-clause-value
returns-then-gives_value-clause-value c t is ts at =
    let text = ap (λ x. c.args.is_named && bytes_eq x (codes "=")) (c.as_str.ensures t is) in
    let signed = sym text ∙ (sym c.gives_value.ensures ∙ c.if-gives_value.true) in
    let value = c.in_ok-value.ensures.value ts at in
    (value.0, value_taken c.args.is_named t ts signed _ value.0 value.1, value.2)

pub returns-in_err-value-clause-value : goal.returns-in_err-value-clause-value
returns-in_err-value-clause-value c t is ts at =
    let text = ap (λ x. c.args.is_named && bytes_eq x (codes "=")) (c.as_str.ensures t is) in
    let signed = sym text ∙ (sym c.gives_value.ensures ∙ c.if-gives_value.true) in
    let p = err_from_is_err_and c.from_residual.result c.from_residual.ensures.1 in
    rw (p.1, p.2) (value_refused c.args.is_named t ts signed (told c.in_err-value.field-0.0) (c.in_err-value.ensures.value ts at))

pub returns-clause-value : goal.returns-clause-value
returns-clause-value c t is ts at =
    let text = ap (λ x. c.args.is_named && bytes_eq x (codes "=")) (c.as_str.ensures t is) in
    let unsigned = sym text ∙ (sym c.gives_value.ensures ∙ c.if-gives_value.false) in
    let name =
    token_taken (λ n. n.now) expect_identifier t c.args.token c.expect_identifier.result c.in_ok-into_result.field-0 is
    (c.expect_identifier.ensures t is) c.in_ok-into_result.ensures in
    (ts, name_taken c.args.is_named t ts unsigned _ name, at)

pub returns-in_err-into_result-clause-value : goal.returns-in_err-into_result-clause-value
returns-in_err-into_result-clause-value c t is ts at =
    let text = ap (λ x. c.args.is_named && bytes_eq x (codes "=")) (c.as_str.ensures t is) in
    let unsigned = sym text ∙ (sym c.gives_value.ensures ∙ c.if-gives_value.false) in
    let p = err_from_is_err_and c.from_residual-in_err-into_result.result c.from_residual-in_err-into_result.ensures.1 in
    rw (p.1, p.2) (name_refused c.args.is_named t ts unsigned (told c.in_err-into_result.field-0.0) (token_refused (λ n. n.now)
    expect_identifier t c.args.token c.expect_identifier.result (told c.in_err-into_result.field-0.0) is
    (c.expect_identifier.ensures t is) c.in_err-into_result.ensures))
