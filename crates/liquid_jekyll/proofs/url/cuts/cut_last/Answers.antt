use Rattle.std.proofs.Common.{Some, None, sym, ◌≡◌, ◌-◌, arith, refl}
use Rattle.memchr.proofs.lemmas.ValueLemmas.{FindsLastNeedle-value}
use Rattle.liquid_strings.proofs.PlaceLemmas.{cut_at_last, cut_after}
use Rattle.liquid_jekyll.proofs.url.cuts.cut_last.Goals as goal

pub range-requires-clause-end_boundary : goal.range-requires-clause-end_boundary
range-requires-clause-end_boundary c =
    cut_at_last c.args.text.now c.args.mark.now c.utf8.text c.utf8.mark c.in-Some.at
    (rw (c.as_bytes.ensures.value, c.as_bytes-2.ensures.value) at c.in-Some.ensures)

pub range_from-requires : goal.range_from-requires
range_from-requires c =
    let found = rw (c.as_bytes.ensures.value, c.as_bytes-2.ensures.value) at c.in-Some.ensures in
    λ _. cut_after c.args.text.now c.args.mark.now c.utf8.text c.utf8.mark c.in-Some.at
    (cut_at_last c.args.text.now c.args.mark.now c.utf8.text c.utf8.mark c.in-Some.at found) found.1

pub returns-in-Some : goal.returns-in-Some
returns-in-Some c =
    let found = rw (c.as_bytes.ensures.value, c.as_bytes-2.ensures.value) at c.in-Some.ensures in
    rw (
      sym (FindsLastNeedle-value c.args.text.now c.args.mark.now (Some c.in-Some.at) found),
      c.range.ensures.value,
      c.range_from.ensures.value,
    )
    (let whole : c.in-Some.at - 0 ≡ c.in-Some.at = omega arith in rw whole refl)

pub returns-in-None : goal.returns-in-None
returns-in-None c =
    let none = rw (c.as_bytes.ensures.value, c.as_bytes-2.ensures.value) at c.in-None.ensures in
    rw (sym (FindsLastNeedle-value c.args.text.now c.args.mark.now None none))
