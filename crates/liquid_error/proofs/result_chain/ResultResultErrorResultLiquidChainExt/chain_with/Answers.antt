use Rattle.std.proofs.Common.{Ok, String, Global}
use Rattle.std.specs.Prelude.{string_bytes}
use Rattle.liquid_error.specs.meaning.Refusal.{chained}
use Rattle.liquid_error.proofs.Makers.{changed_by}
use Rattle.liquid_error.proofs.result_chain.ResultResultErrorResultLiquidChainExt.chain_with.Goals as goal

pub returns-in-Ok-message : goal.returns-in-Ok-message
returns-in-Ok-message g c = changed_by (λ (text : String Global). g.F.FnOnce.post c.args.message tt (Ok text))
    (λ (text : String Global). chained (string_bytes text)) c.args.self c.in-Err.error c.chain_text.result c.in-Ok-message.text
    c.in-Err.is c.in-Ok-message.ensures c.chain_text.ensures
