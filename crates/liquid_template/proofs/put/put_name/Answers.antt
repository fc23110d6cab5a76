use Rattle.std.proofs.Common.{[], refl, ap}
use Rattle.liquid_error.specs.meaning.Refusal.{ok_then}
use Rattle.liquid_runtime.specs.meaning.Erased.{erase}
use Rattle.liquid_plugins.specs.meaning.Chain.{filtered}
use Rattle.liquid_template.proofs.Framing.{renders_memory}
use Rattle.liquid_template.proofs.Pieces.{told_memory}
use Rattle.liquid_template.proofs.Renderings.{chain_out, value_written}
use Rattle.liquid_template.proofs.put.put_name.Goals as goal

pub returns-in-Some-clause-renders : goal.returns-in-Some-clause-renders
returns-in-Some-clause-renders g c =
    value_written _ _ _ _ _ _ _ (ap (λ r. ok_then r (filtered g.X.Filter.means (erase (g.R.Runtime.view c.args.runtime.now)) []))
    c.in-Some.ensures.evaluates) refl c.put_seen.ensures.out

pub returns-in-Ok-clause-renders : goal.returns-in-Ok-clause-renders
returns-in-Ok-clause-renders g c =
    chain_out g.X.Filter.means _ _ _ _ _ _ _ c.in-Ok.ensures c.put_chain.ensures.renders

pub returns-in-Err-clause-renders : goal.returns-in-Err-clause-renders
returns-in-Err-clause-renders g c = renders_memory _ _ _ _ told_memory
