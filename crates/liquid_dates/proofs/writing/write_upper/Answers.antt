use Rattle.std.proofs.Common.{◌≡◌, ◌∙◌, true}
use Rattle.liquid_dates.specs.meaning.Filling.{is_ascii_text}
use Rattle.liquid_dates.proofs.AsciiLemmas.{upper_more}
use Rattle.liquid_dates.proofs.writing.write_upper.Goals as goal

pub loop-byte-preserved : goal.loop-byte-preserved
loop-byte-preserved c =
    let items = c.as_bytes-byte-items.result.now in
    let ascii : is_ascii_text items ≡ true = rw c.as_bytes-byte-items.ensures.value c.requires in
    upper_more _ _ _ _ items c.loop-byte.byte-index _ c.loop-byte-test.true ascii
    (c.from.ensures ∙ c.to_ascii_uppercase.ensures.value) c.in_ok-push.ensures.ascii c.in_ok-push.ensures.bytes c.loop-byte.invariant
