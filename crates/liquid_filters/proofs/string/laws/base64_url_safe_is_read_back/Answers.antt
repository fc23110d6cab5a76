use Rattle.std.proofs.Common.{ap, arith, refl, ◌∙◌}
use Rattle.std.proofs.lemmas.Bool.{cond-true}
use Rattle.std.proofs.lemmas.Str.{is_utf8-from_IsUtf8}
use Rattle.base64.specs.Engines.{url_safe}
use Rattle.base64.proofs.EngineFacts.{decode_of-encode_of}
use Rattle.liquid_filters.specs.meaning.string.Encoding.{decoded_bytes, decoded_text}
use Rattle.liquid_filters.proofs.string.laws.base64_url_safe_is_read_back.Goals as goal

pub returns : goal.returns
returns c =
    ap decoded_bytes (decode_of-encode_of url_safe c.args.text.now refl (λ i. omega (arith, c.type_inv.text i)))
    ∙ ap decoded_text (cond-true _ _ _ (is_utf8-from_IsUtf8 c.args.text.now c.utf8.text))
