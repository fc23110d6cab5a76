use Rattle.std.proofs.Common.{◌≡◌, ap, sym, subst, ◌∙◌, Ok, Err}
use Rattle.std.specs.Prelude.{IfSome}
use Rattle.std.proofs.lemmas.Result.{err_from_is_err_and}
use Rattle.liquid_error.specs.meaning.Refusal.{ok_then}
use Rattle.liquid_error.specs.meaning.Told.{told}
use Rattle.liquid_parser.specs.meaning.Plugins.{registry_of}
use Rattle.liquid_parser.proofs.StepLemmas.{then_refused}
use Rattle.liquid_extend.specs.declared.beside.one_of.Beside.TheVariants.{Library, Own}
use Rattle.liquid_extend.specs.meaning.Plugins.{tag_beside}
use Rattle.liquid_extend.proofs.beside.tags.BesideParseTag.parse.Goals as goal

pub returns-in_ok-parse-in-Library : goal.returns-in_ok-parse-in-Library
returns-in_ok-parse-in-Library g c ts at =
    ap (λ x. tag_beside g.L.ParseTag.gives g.O.ParseTag.gives x (registry_of g.F.ParseFilter.makes c.args.filters.now) ts) c.in-Library.is
    ∙ ap (λ r. ok_then r (λ node. Ok (Library node))) (c.in_ok-parse-in-Library.ensures ts at)

pub returns-in_err-parse-in-Library : goal.returns-in_err-parse-in-Library
returns-in_err-parse-in-Library g c ts at =
    let filters = registry_of g.F.ParseFilter.makes c.args.filters.now in
    let p = err_from_is_err_and c.from_residual.result c.from_residual.ensures.1 in
    rw (p.1, p.2) (subst (λ m. IfSome (told c.in_err-parse-in-Library.field-0.0) (λ r. m ≡ Err r))
    (sym (ap (λ x. tag_beside g.L.ParseTag.gives g.O.ParseTag.gives x filters ts) c.in-Library.is))
    (then_refused (told c.in_err-parse-in-Library.field-0.0) (g.L.ParseTag.gives c.in-Library.tag filters ts) (λ node. Ok (Library node))
    (c.in_err-parse-in-Library.ensures ts at)))

pub returns-in_ok-parse-in-Own : goal.returns-in_ok-parse-in-Own
returns-in_ok-parse-in-Own g c ts at =
    ap (λ x. tag_beside g.L.ParseTag.gives g.O.ParseTag.gives x (registry_of g.F.ParseFilter.makes c.args.filters.now) ts) c.in-Own.is
    ∙ ap (λ r. ok_then r (λ node. Ok (Own node))) (c.in_ok-parse-in-Own.ensures ts at)

pub returns-in_err-parse-in-Own : goal.returns-in_err-parse-in-Own
returns-in_err-parse-in-Own g c ts at =
    let filters = registry_of g.F.ParseFilter.makes c.args.filters.now in
    let p = err_from_is_err_and c.from_residual-in_err-parse-in-Own.result c.from_residual-in_err-parse-in-Own.ensures.1 in
    rw (p.1, p.2) (subst (λ m. IfSome (told c.in_err-parse-in-Own.field-0.0) (λ r. m ≡ Err r))
    (sym (ap (λ x. tag_beside g.L.ParseTag.gives g.O.ParseTag.gives x filters ts) c.in-Own.is))
    (then_refused (told c.in_err-parse-in-Own.field-0.0) (g.O.ParseTag.gives c.in-Own.tag filters ts) (λ node. Ok (Own node))
    (c.in_err-parse-in-Own.ensures ts at)))
