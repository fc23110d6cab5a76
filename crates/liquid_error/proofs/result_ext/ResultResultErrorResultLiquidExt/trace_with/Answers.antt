use Rattle.std.proofs.Common.{Ok, String, Global}
use Rattle.std.specs.Prelude.{string_bytes}
use Rattle.liquid_error.specs.meaning.Refusal.{with_trace}
use Rattle.liquid_error.proofs.Makers.{changed_by}
use Rattle.liquid_error.proofs.result_ext.ResultResultErrorResultLiquidExt.trace_with.Goals as goal

pub returns-in-Ok-trace : goal.returns-in-Ok-trace
returns-in-Ok-trace g c = changed_by (λ (text : String Global). g.F.FnOnce.post c.args.trace tt (Ok text))
    (λ (text : String Global). with_trace (string_bytes text)) c.args.self c.in-Err.error c.trace_text.result c.in-Ok-trace.text
    c.in-Err.is c.in-Ok-trace.ensures c.trace_text.ensures
