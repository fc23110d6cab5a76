use Rattle.std.proofs.Common.{Ok, ap}
use Rattle.std.proofs.lemmas.Result.{err_from_is_err_and}
use Rattle.liquid_error.specs.meaning.Refusal.{ok_then}
use Rattle.liquid_error.specs.meaning.Told.{told}
use Rattle.test_plugins.specs.declared.blocks.BlockShape.TheVariants.{With}
use Rattle.liquid_parser.proofs.StepLemmas.{then_refused}
use Rattle.test_plugins.proofs.block_plugins.plain_block.Goals as goal

pub returns-in_ok-name-in-With : goal.returns-in_ok-name-in-With
returns-in_ok-name-in-With c ts at =
    rw c.in-With.is (ap (λ q. ok_then q (λ given. Ok (With given.0 given.1))) (c.in_ok-name-in-With.ensures ts at))

pub returns-in_err-name-in-With : goal.returns-in_err-name-in-With
returns-in_err-name-in-With c ts at =
    let p = err_from_is_err_and c.from_residual.result c.from_residual.ensures.1 in
    rw (c.in-With.is, p.1, p.2) (then_refused (told c.in_err-name-in-With.field-0.0) _ (λ given. Ok (With given.0 given.1))
    (c.in_err-name-in-With.ensures ts at))
