use Rattle.std.proofs.Common.{Some, None, sym}
use Rattle.memchr.proofs.lemmas.ValueLemmas.{FindsLastNeedle-value}
use Rattle.liquid_strings.proofs.PlaceLemmas.{cut_at_last, cut_after}
use Rattle.liquid_strings.proofs.replacement.replace_last.Goals as goal

pub replace_at-requires-clause-start : goal.replace_at-requires-clause-start
replace_at-requires-clause-start c =
    cut_at_last c.args.text.now c.args.search.now c.utf8.text c.utf8.search c.in-Some.at
    (rw (c.as_bytes.ensures.value, c.as_bytes-2.ensures.value) at c.in-Some.ensures)

pub replace_at-requires-clause-end : goal.replace_at-requires-clause-end
replace_at-requires-clause-end c =
    let found = rw (c.as_bytes.ensures.value, c.as_bytes-2.ensures.value) at c.in-Some.ensures in
    cut_after c.args.text.now c.args.search.now c.utf8.text c.utf8.search c.in-Some.at
    (cut_at_last c.args.text.now c.args.search.now c.utf8.text c.utf8.search c.in-Some.at found) found.1

pub returns-in-Some : goal.returns-in-Some
returns-in-Some c =
    let found = rw (c.as_bytes.ensures.value, c.as_bytes-2.ensures.value) at c.in-Some.ensures in
    rw (sym (FindsLastNeedle-value c.args.text.now c.args.search.now (Some c.in-Some.at) found)) c.replace_at.ensures

pub returns-in-None : goal.returns-in-None
returns-in-None c =
    let none = rw (c.as_bytes.ensures.value, c.as_bytes-2.ensures.value) at c.in-None.ensures in
    rw (sym (FindsLastNeedle-value c.args.text.now c.args.search.now None none)) c.from_str.ensures.ok
