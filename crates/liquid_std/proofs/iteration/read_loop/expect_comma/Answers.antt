use Rattle.liquid_tags.proofs.PairLemmas.{comma_given}
use Rattle.liquid_std.proofs.iteration.read_loop.expect_comma.Goals as goal

pub returns : goal.returns
returns c t is = comma_given t c.args.token c.expect_str.result c.into_result.result is (c.expect_str.ensures t is) c.into_result.ensures
