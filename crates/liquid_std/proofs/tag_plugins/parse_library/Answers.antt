use Rattle.std.proofs.Common.{Ok, Err, ◌≡◌, ap, sym, subst, ◌∙◌}
use Rattle.std.specs.Prelude.{IfSome}
use Rattle.std.proofs.lemmas.Result.{err_from_is_err_and}
use Rattle.liquid_error.specs.meaning.Refusal.{ok_then}
use Rattle.liquid_error.specs.meaning.Told.{told}
use Rattle.liquid_parser.proofs.StepLemmas.{then_refused}
use Rattle.liquid_std.specs.declared.tags.StdTagShape.TheVariants.{Library}
use Rattle.liquid_std.specs.meaning.TagPlugins.{library_by}
use Rattle.liquid_std.proofs.tag_plugins.parse_library.Goals as goal

pub returns-in_ok-parse-in-None : goal.returns-in_ok-parse-in-None
returns-in_ok-parse-in-None g c ts at =
    ap (library_by c.args.tag _ ts) (sym c.in-None.ensures)
    ∙ ap (λ r. ok_then r (λ n. Ok (Library n))) (c.in_ok-parse-in-None.ensures ts at)

pub returns-in_err-parse-in-None : goal.returns-in_err-parse-in-None
returns-in_err-parse-in-None g c ts at =
    let p = err_from_is_err_and c.from_residual.result c.from_residual.ensures.1 in
    rw (p.1, p.2) (subst (λ q. IfSome (told c.in_err-parse-in-None.field-0.0) (λ r. q ≡ Err r))
    (sym (ap (library_by c.args.tag _ ts) (sym c.in-None.ensures)))
    (then_refused (told c.in_err-parse-in-None.field-0.0) _ (λ n. Ok (Library n)) (c.in_err-parse-in-None.ensures ts at)))
