use Rattle.std.proofs.Common.{ap}
use Rattle.liquid_value.specs.meaning.Render.{render}
use Rattle.liquid_template.proofs.Renderings.{value_refused, value_written}
use Rattle.liquid_template.proofs.put.put_chain.Goals as goal

pub returns-in-Ok-clause-renders : goal.returns-in-Ok-clause-renders
returns-in-Ok-clause-renders g c = value_written _ _ _ _ _ _ _ c.in-Ok.ensures (ap render c.as_view.ensures) c.put_value.ensures.out

pub returns-in-Err-clause-renders : goal.returns-in-Err-clause-renders
returns-in-Err-clause-renders g c = value_refused _ _ _ _ c.in-Err.ensures
