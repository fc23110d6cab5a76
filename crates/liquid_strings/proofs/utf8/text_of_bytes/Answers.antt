use Rattle.std.proofs.Common.{ap}
use Rattle.std.proofs.lemmas.Bool.{false≢true}
use Rattle.liquid_strings.proofs.Utf8Lemmas.{is_text, no_text}
use Rattle.liquid_strings.proofs.utf8.text_of_bytes.Goals as goal

pub returns-in-Ok : goal.returns-in-Ok
returns-in-Ok c = is_text c.in-Ok.text c.args.bytes.items (ap (λ v. v.items) c.in-Ok.ensures.ok)

pub returns : goal.returns
returns c = no_text c.args.bytes.items (λ u. false≢true (c.in-Err.ensures.succeeds u))
