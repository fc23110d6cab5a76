use Rattle.std.proofs.Common.{rules, string_cmp}
use Rattle.std.proofs.lemmas.Result.{IfOk-weaker}
use Rattle.std.specs.BTreeMap.{IsFromIterResult}
use Rattle.liquid_value.proofs.Collected.{collected}
use Rattle.liquid_value.proofs.clone.object_in_order.Goals as goal

pub returns : goal.returns
returns c = IfOk-weaker c.collect.result (IsFromIterResult string_cmp c.args.entries.items) _
    (λ m made. collected c.args.entries.items m c.requires made) (search rules)
