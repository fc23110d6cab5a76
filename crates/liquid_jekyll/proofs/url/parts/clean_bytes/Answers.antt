use Rattle.std.proofs.Common.{⊎_elim}
use Rattle.std.proofs.lemmas.Bool.{cases_Bool}
use Rattle.std.proofs.lemmas.Str.{is_utf8-from_IsUtf8, IsUtf8-from_is_utf8}
use Rattle.std.specs.Str.{is_utf8}
use Rattle.liquid_jekyll.proofs.url.parts.clean_bytes.Goals as goal

pub returns-in_ok-normal-in-Ok : goal.returns-in_ok-normal-in-Ok
returns-in_ok-normal-in-Ok c =
    rw (
      is_utf8-from_IsUtf8 c.args.bytes.now c.in-Ok.ensures.cases.1,
      ← c.in-Ok.ensures.cases.0,
      ← c.in_ok-normal-in-Ok.ensures,
      ← c.as_bytes.ensures.value,
    )
    c.escape.ensures

pub returns-in-Err : goal.returns-in-Err
returns-in-Err c = ⊎_elim
    (λ yes. absurd (c.in-Err.ensures.cases.0 (IsUtf8-from_is_utf8 c.args.bytes.now yes)))
    (λ no. rw no c.escape-in-Err.ensures)
    (cases_Bool (is_utf8 c.args.bytes.now))
