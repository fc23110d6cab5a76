use Rattle.std.proofs.Common.{◌≡◌, ◌∙◌, None, Err, ap, sym, rules}
use Rattle.std.proofs.lemmas.Option.{none-some}
use Rattle.std.specs.Prelude.{option_and_then, option_map}
use Rattle.serde_json.specs.Read.{of_json, read}
use Rattle.liquid_json.specs.meaning.decimals.Given.{json_read, object_given, object_read}
use Rattle.liquid_json.proofs.decimals.read.object_with_decimals.Goals as goal

pub unreachable-requires : goal.unreachable-requires
unreachable-requires c =
    let none : json_read c.args.text.now ≡ None = c.in-Err-Invalid.ensures.invalid (ap Err c.in-Err-Invalid.field-0-is) in
    let is : read c.args.text.now ≡ None = ap (option_and_then of_json) none in
    absurd (none-some _ (sym is ∙ c.in-Ok-from_str.ensures.ok))

pub returns-in-Err-from_str : goal.returns-in-Err-from_str
returns-in-Err-from_str c =
    let none : json_read c.args.text.now ≡ None = c.in-Err-Invalid.ensures.invalid (ap Err c.in-Err-Invalid.field-0-is) in
    let is : object_read c.args.text.now ≡ None = ap (option_map object_given) none in
    search (rules, is)
