use Rattle.std.proofs.Common.{rules, string_cmp}
use Rattle.std.proofs.lemmas.Result.{IfOk-weaker}
use Rattle.std.specs.BTreeMap.{IsFromIterResult}
use Rattle.liquid_json.proofs.Collected.{collected}
use Rattle.liquid_json.proofs.Shown.{json_members_by_name}
use Rattle.liquid_json.proofs.build.map_in_order.Goals as goal

pub returns : goal.returns
returns c =
    let entries = c.args.entries.items in
    IfOk-weaker c.collect.result (IsFromIterResult string_cmp entries) _
    (λ m made. json_members_by_name m.entries entries (collected entries m c.requires made)) (search rules)
