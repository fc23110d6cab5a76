use Rattle.std.proofs.Common.{Ok, ap}
use Rattle.std.proofs.lemmas.Result.{err_from_is_err_and}
use Rattle.liquid_error.specs.meaning.Refusal.{ok_then}
use Rattle.liquid_error.specs.meaning.Told.{told}
use Rattle.test_plugins.specs.declared.tags.TagShape.TheVariants.{Set, Inc}
use Rattle.liquid_parser.proofs.StepLemmas.{then_refused}
use Rattle.test_plugins.proofs.tag_plugins.plain_tag.Goals as goal

pub returns-in_ok-name-in-Set : goal.returns-in_ok-name-in-Set
returns-in_ok-name-in-Set c ts at =
    rw c.in-Set.is (ap (λ q. ok_then q (λ given. Ok (Set given.0 given.1))) (c.in_ok-name-in-Set.ensures ts at))

pub returns-in_err-name-in-Set : goal.returns-in_err-name-in-Set
returns-in_err-name-in-Set c ts at =
    let p = err_from_is_err_and c.from_residual.result c.from_residual.ensures.1 in
    rw (c.in-Set.is, p.1, p.2) (then_refused (told c.in_err-name-in-Set.field-0.0) _ (λ given. Ok (Set given.0 given.1))
    (c.in_err-name-in-Set.ensures ts at))

pub returns-in_ok-name_alone-in-Inc : goal.returns-in_ok-name_alone-in-Inc
returns-in_ok-name_alone-in-Inc c ts at =
    rw c.in-Inc.is (ap (λ q. ok_then q (λ name. Ok (Inc name))) (c.in_ok-name_alone-in-Inc.ensures ts at))

pub returns-in_err-name_alone-in-Inc : goal.returns-in_err-name_alone-in-Inc
returns-in_err-name_alone-in-Inc c ts at =
    let p = err_from_is_err_and c.from_residual-in_err-name_alone-in-Inc.result c.from_residual-in_err-name_alone-in-Inc.ensures.1 in
    rw (c.in-Inc.is, p.1, p.2) (then_refused (told c.in_err-name_alone-in-Inc.field-0.0) _ (λ name. Ok (Inc name))
    (c.in_err-name_alone-in-Inc.ensures ts at))
