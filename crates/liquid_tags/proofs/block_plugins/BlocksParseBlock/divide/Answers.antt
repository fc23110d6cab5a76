use Rattle.liquid_error.specs.meaning.Told.{told}
use Rattle.liquid_tags.proofs.DivideLemmas.{closed_divided}
use Rattle.liquid_tags.proofs.block_plugins.BlocksParseBlock.divide.Goals as goal

pub returns-then-plan : goal.returns-then-plan
returns-then-plan g c ts at = closed_divided _ c.args.name.now ts (told c.raise_error.result) c.if-plan.true (c.raise_error.ensures ts at)
