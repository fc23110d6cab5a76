use Rattle.liquid_strings.proofs.TagLemmas.{after_last, no_last}
use Rattle.liquid_strings.proofs.tags.parts_of.Goals as goal
use Rattle.liquid_strings.proofs.tags.parts_of.Goals.{in-Some, in-None}

pub returns-clause-end : goal.returns-clause-end
returns-clause-end c =
    elim c.match-rfind.branch [
      | in-Some w ↦ rw w.end-is (after_last c.args.text.now c.args.closer.now w.in-Some.last
          (rw (c.as_bytes.ensures.value, c.as_bytes-2.ensures.value) at w.in-Some.ensures))
      | in-None w ↦ rw w.end-is (no_last c.args.text.now c.args.closer.now
          (rw (c.as_bytes.ensures.value, c.as_bytes-2.ensures.value) at w.in-None.ensures))
    ]
