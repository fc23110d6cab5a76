use Rattle.std.proofs.Common.{rules, refl}
use Rattle.liquid_c.proofs.LeavesLemmas.{fault_left, whole_left}
use Rattle.liquid_c.proofs.rendering.finish.Goals as goal

pub returns-in-Ok-clause-leaves : goal.returns-in-Ok-clause-leaves
returns-in-Ok-clause-leaves c =
    λ page shows. whole_left page c.as_bytes-bytes.result.now _ _ _ c.args.rendered.now.end c.as_bytes-bytes.ensures shows _ _ c.in-Ok.is
    (search rules) (search rules) (search rules) (search rules) (refl, refl) (refl, refl) refl refl

pub returns-in-Err-clause-leaves : goal.returns-in-Err-clause-leaves
returns-in-Err-clause-leaves c =
    λ page shows. fault_left page c.as_bytes-bytes.result.now _ _ _ c.args.rendered.now.end c.as_bytes-bytes.ensures shows
    c.outcome_of.result _ _ _ _ c.in-Err.is c.outcome_of.ensures c.write_message-message_len.ensures (search rules) (search rules)
    (search rules)
