use Rattle.std.proofs.Common.{ap, ◌∙◌, BTreeMap, String, Global}
use Rattle.liquid_value.proofs.SharedLemmas.{members-Shared}
use Rattle.liquid_value.specs.declared.value.Value.{Value}
use Rattle.liquid_value.specs.meaning.View.{members_view}
use Rattle.liquid_value.proofs.shared_object.SharedObject.shared.Goals as goal

pub returns-in_ok-new : goal.returns-in_ok-new
returns-in_ok-new c = members-Shared c.in_ok-new.field-0
    ∙ ap (λ (m : BTreeMap (String Global) Value). members_view m.entries) c.in_ok-new.ensures.ok
