use Rattle.std.proofs.Common.{arith, ◌≡◌, string_bytes}
use Rattle.percent_encoding.specs.Percent.{percent_encode}
use Rattle.liquid_strings.specs.declared.url.TheConstants.{ESCAPED}
use Rattle.liquid_strings.proofs.UrlLemmas.{encoded}
use Rattle.liquid_strings.proofs.url.url_encode.Goals as goal

pub returns : goal.returns
returns c =
    let text : string_bytes c.append_to.new.out ≡ percent_encode ESCAPED c.args.text.now =
    grind (arith, c.in_ok-append_to.ensures.ok, c.in_ok-encoded.ensures.bytes, c.percent_encode.ensures.text, c.as_bytes.ensures.value) in
    rw (← encoded c.args.text.now, ← text, ← c.as_str.ensures.value) c.replace.ensures
