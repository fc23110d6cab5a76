use Rattle.std.proofs.Common.{ap, sym, ◌∙◌}
use Rattle.std.proofs.lemmas.Result.{IfOk-weaker}
use Rattle.liquid_value.specs.meaning.View.{array_view}
use Rattle.liquid_value.proofs.SharedLemmas.{same_or_copied_list, items-Shared}
use Rattle.liquid_value.proofs.shared_array.SharedArray.into_array.Goals as goal

pub returns-in-Shared : goal.returns-in-Shared
returns-in-Shared c = IfOk-weaker c.unwrap_or_clone.result _ _
    (λ m h. same_or_copied_list c.in-Shared.array.value m h ∙ sym (items-Shared c.in-Shared.array)
    ∙ ap array_view (sym c.in-Shared.is)) c.unwrap_or_clone.ensures.ok
