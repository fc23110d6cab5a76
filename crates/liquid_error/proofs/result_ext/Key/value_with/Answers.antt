use Rattle.std.proofs.Common.{ℕ, List, Ok, String, Global, subst}
use Rattle.std.specs.Prelude.{string_bytes}
use Rattle.liquid_error.specs.meaning.Refusal.{with_context}
use Rattle.liquid_error.specs.meaning.Told.{Becomes}
use Rattle.liquid_error.specs.meaning.Helpers.{key_result, key_text}
use Rattle.liquid_error.proofs.Makers.{changed_by}
use Rattle.liquid_error.proofs.result_ext.Key.value_with.Goals as goal

pub returns-in-Ok-from_str : goal.returns-in-Ok-from_str
returns-in-Ok-from_str g c =
    let P : List ℕ → Type 0 = λ key. Becomes (with_context key (string_bytes c.in-Ok-value.text)) c.in-Err.error c.context_texts.result in
    changed_by
    (λ (text : String Global). g.F.FnOnce.post c.args.value tt (Ok text))
    (λ (text : String Global). with_context (key_text c.args.self) (string_bytes text))
    (key_result c.args.self) c.in-Err.error c.context_texts.result c.in-Ok-value.text c.in-Err.is c.in-Ok-value.ensures
    (subst P c.in-Ok-from_str.ensures.ok c.context_texts.ensures)
