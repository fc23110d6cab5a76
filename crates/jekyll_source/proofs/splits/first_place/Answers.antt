use Rattle.memchr.proofs.lemmas.ValueLemmas.{FindsNeedle-value}
use Rattle.jekyll_source.proofs.CutLemmas.{cuts_end, cuts_start, fits_needle}
use Rattle.jekyll_source.proofs.splits.first_place.Goals as goal

pub returns-clause-value : goal.returns-clause-value
returns-clause-value c =
    FindsNeedle-value c.args.text.now c.args.search.now c.find.result
    (rw (c.as_bytes.ensures.value, c.as_bytes-2.ensures.value) at c.find.ensures)

pub returns-clause-within : goal.returns-clause-within
returns-clause-within c =
    fits_needle c.args.text.now c.args.search.now c.requires c.utf8.text c.utf8.search c.find.result
    (rw (c.as_bytes.ensures.value, c.as_bytes-2.ensures.value) at c.find.ensures)

pub returns-clause-start : goal.returns-clause-start
returns-clause-start c =
    cuts_start c.args.text.now c.args.search.now c.requires c.utf8.text c.utf8.search c.find.result
    (rw (c.as_bytes.ensures.value, c.as_bytes-2.ensures.value) at c.find.ensures)

pub returns-clause-end : goal.returns-clause-end
returns-clause-end c =
    cuts_end c.args.text.now c.args.search.now c.requires c.utf8.text c.utf8.search c.find.result
    (rw (c.as_bytes.ensures.value, c.as_bytes-2.ensures.value) at c.find.ensures)
