use Rattle.std.proofs.Common.{Ok, String, Global}
use Rattle.std.specs.Prelude.{string_bytes}
use Rattle.liquid_error.specs.meaning.Refusal.{with_context}
use Rattle.liquid_error.specs.meaning.Helpers.{fn_key_result, fn_key_maker}
use Rattle.liquid_error.proofs.Makers.{changed_by}
use Rattle.liquid_error.proofs.result_ext.FnKey.value_with.Goals as goal

pub returns-in-Ok-value : goal.returns-in-Ok-value
returns-in-Ok-value g c =
    changed_by
    (λ (made : String Global × String Global). g.F.FnOnce.post (fn_key_maker c.args.self) tt (Ok made.0)
    × g.V.FnOnce.post c.args.value tt (Ok made.1))
    (λ (made : String Global × String Global). with_context (string_bytes made.0) (string_bytes made.1))
    (fn_key_result c.args.self) c.in-Err.error c.context_texts.result (c.in-Ok-key.key, c.in-Ok-value.text) c.in-Err.is
    (c.in-Ok-key.ensures, c.in-Ok-value.ensures) c.context_texts.ensures
