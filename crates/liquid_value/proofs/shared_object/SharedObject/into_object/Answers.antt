use Rattle.std.proofs.Common.{ap, sym, ◌∙◌}
use Rattle.std.proofs.lemmas.Result.{IfOk-weaker}
use Rattle.liquid_value.specs.meaning.View.{object_view}
use Rattle.liquid_value.proofs.SharedLemmas.{same_or_copied_map, members-Shared}
use Rattle.liquid_value.proofs.shared_object.SharedObject.into_object.Goals as goal

pub returns-in-Shared : goal.returns-in-Shared
returns-in-Shared c = IfOk-weaker c.unwrap_or_clone.result _ _
    (λ m h. same_or_copied_map c.in-Shared.object.value m h ∙ sym (members-Shared c.in-Shared.object)
    ∙ ap object_view (sym c.in-Shared.is)) c.unwrap_or_clone.ensures.ok
