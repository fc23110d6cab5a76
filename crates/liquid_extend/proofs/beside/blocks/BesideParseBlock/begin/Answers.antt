use Rattle.std.proofs.Common.{◌≡◌, ap, sym, subst, ◌∙◌, Ok, Err}
use Rattle.std.specs.Prelude.{IfSome}
use Rattle.std.proofs.lemmas.Result.{err_from_is_err_and}
use Rattle.liquid_error.specs.meaning.Refusal.{ok_then}
use Rattle.liquid_error.specs.meaning.Told.{told}
use Rattle.liquid_parser.specs.meaning.Plugins.{registry_of}
use Rattle.liquid_parser.proofs.StepLemmas.{then_refused}
use Rattle.liquid_extend.specs.declared.beside.one_of.Beside.TheVariants.{Library, Own}
use Rattle.liquid_extend.specs.meaning.Plugins.{block_beside}
use Rattle.liquid_extend.proofs.beside.blocks.BesideParseBlock.begin.Goals as goal

pub returns-in_ok-begin-in-Library : goal.returns-in_ok-begin-in-Library
returns-in_ok-begin-in-Library g c ts at =
    ap (λ x. (block_beside g.L.ParseBlock.block g.O.ParseBlock.block x).means.begin
    (registry_of g.F.ParseFilter.makes c.args.filters.now) ts) c.in-Library.is
    ∙ ap (λ r. ok_then r (λ plan. Ok (Library plan))) (c.in_ok-begin-in-Library.ensures ts at)

pub returns-in_err-begin-in-Library : goal.returns-in_err-begin-in-Library
returns-in_err-begin-in-Library g c ts at =
    let filters = registry_of g.F.ParseFilter.makes c.args.filters.now in
    let p = err_from_is_err_and c.from_residual.result c.from_residual.ensures.1 in
    rw (p.1, p.2) (subst (λ m. IfSome (told c.in_err-begin-in-Library.field-0.0) (λ r. m ≡ Err r))
    (sym (ap (λ x. (block_beside g.L.ParseBlock.block g.O.ParseBlock.block x).means.begin filters ts) c.in-Library.is))
    (then_refused (told c.in_err-begin-in-Library.field-0.0) ((g.L.ParseBlock.block c.in-Library.block).means.begin filters ts)
    (λ plan. Ok (Library plan)) (c.in_err-begin-in-Library.ensures ts at)))

pub returns-in_ok-begin-in-Own : goal.returns-in_ok-begin-in-Own
returns-in_ok-begin-in-Own g c ts at =
    ap (λ x. (block_beside g.L.ParseBlock.block g.O.ParseBlock.block x).means.begin
    (registry_of g.F.ParseFilter.makes c.args.filters.now) ts) c.in-Own.is
    ∙ ap (λ r. ok_then r (λ plan. Ok (Own plan))) (c.in_ok-begin-in-Own.ensures ts at)

pub returns-in_err-begin-in-Own : goal.returns-in_err-begin-in-Own
returns-in_err-begin-in-Own g c ts at =
    let filters = registry_of g.F.ParseFilter.makes c.args.filters.now in
    let p = err_from_is_err_and c.from_residual-in_err-begin-in-Own.result c.from_residual-in_err-begin-in-Own.ensures.1 in
    rw (p.1, p.2) (subst (λ m. IfSome (told c.in_err-begin-in-Own.field-0.0) (λ r. m ≡ Err r))
    (sym (ap (λ x. (block_beside g.L.ParseBlock.block g.O.ParseBlock.block x).means.begin filters ts) c.in-Own.is))
    (then_refused (told c.in_err-begin-in-Own.field-0.0) ((g.O.ParseBlock.block c.in-Own.block).means.begin filters ts)
    (λ plan. Ok (Own plan)) (c.in_err-begin-in-Own.ensures ts at)))
