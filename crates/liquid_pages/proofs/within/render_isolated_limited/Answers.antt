use Rattle.liquid_pages.proofs.LimitedRuns.{limits_render, same_name}
use Rattle.liquid_pages.proofs.within.render_isolated_limited.Goals as goal

pub returns-clause-renders : goal.returns-clause-renders
returns-clause-renders g c =
    limits_render c.args.room _ _ _ _ _ _ _ _ c.render_isolated_within.new.page.gate.limits _ c.requires
    c.render_isolated_within.ensures.renders

pub returns-clause-same : goal.returns-clause-same
returns-clause-same g c = same_name _ _ _ _ _ _ _ _ _ _ c.render_isolated_within.ensures.renders
