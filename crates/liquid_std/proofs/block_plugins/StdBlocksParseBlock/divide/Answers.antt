use Rattle.liquid_error.specs.meaning.Told.{told}
use Rattle.liquid_std.proofs.DivideLemmas.{closed_divided}
use Rattle.liquid_std.proofs.block_plugins.StdBlocksParseBlock.divide.Goals as goal

pub returns-then-plan : goal.returns-then-plan
returns-then-plan g c ts at = closed_divided _ c.args.name.now ts (told c.raise_error.result) c.if-plan.true (c.raise_error.ensures ts at)
