use Rattle.std.proofs.Common.{ℕ, List, Ok, String, Global, subst}
use Rattle.std.specs.Prelude.{string_bytes}
use Rattle.liquid_error.specs.meaning.Refusal.{with_context}
use Rattle.liquid_error.specs.meaning.Told.{Becomes}
use Rattle.liquid_error.specs.meaning.Helpers.{fn_key_result, fn_key_maker}
use Rattle.liquid_error.proofs.Makers.{changed_by}
use Rattle.liquid_error.proofs.result_ext.FnKey.value.Goals as goal

pub returns-in-Ok-from_str : goal.returns-in-Ok-from_str
returns-in-Ok-from_str g c =
    let P : List ℕ → Type 0 = λ text. Becomes (with_context (string_bytes c.in-Ok-key.key) text) c.in-Err.error c.context_texts.result in
    changed_by
    (λ (key : String Global). g.F.FnOnce.post (fn_key_maker c.args.self) tt (Ok key))
    (λ (key : String Global). with_context (string_bytes key) c.args.value.now)
    (fn_key_result c.args.self) c.in-Err.error c.context_texts.result c.in-Ok-key.key c.in-Err.is c.in-Ok-key.ensures
    (subst P c.in-Ok-from_str.ensures.ok c.context_texts.ensures)
