use Rattle.liquid_std.proofs.KeyLemmas.{keys_differ}
use Rattle.liquid_std.proofs.marks.laws.groups_have_keys_of_their_own.Goals as goal

pub returns : goal.returns
returns c = keys_differ
