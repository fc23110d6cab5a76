use Rattle.liquid_pages.proofs.PreparedLemmas.{read_over}
use Rattle.liquid_pages.proofs.prepared.read_partials.Goals as goal

pub returns-in-Ok : goal.returns-in-Ok
returns-in-Ok g c = read_over _ _ _ c.args.text.now _ _ _ c.in-Ok.ensures c.read_text.ensures
