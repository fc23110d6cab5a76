use Rattle.test_plugins.proofs.Leak.{leak_is_not}
use Rattle.test_plugins.proofs.laws.leak_is_not_discreet.Goals as goal

pub returns : goal.returns
returns g c = leak_is_not g.V.Fresh.fresh
