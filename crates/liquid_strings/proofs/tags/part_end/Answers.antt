use Rattle.std.proofs.Common.{◌+◌, length, refl, sym}
use Rattle.liquid_strings.proofs.HtmlLemmas.{to_end}
use Rattle.liquid_strings.proofs.PlaceLemmas.{cut_before}
use Rattle.liquid_strings.proofs.TagLemmas.{closes_at, cuts_end, no_closer, none_from_end, opens_at}
use Rattle.liquid_strings.proofs.tags.part_end.Goals as goal

pub returns-then-kind-body-clause-value : goal.returns-then-kind-body-clause-value
returns-then-kind-body-clause-value c =
    let text = c.args.text.now in
    let opener = c.args.kind.now.opener.now in
    let closer = c.args.kind.now.closer.now in
    let begins = sym (rw (
      c.as_bytes-bytes.ensures.value,
      c.as_bytes-opener.ensures.value,
      to_end text c.args.at,
    ) at c.if-not-starts_with.ensures.value) in
    let short = rw (c.as_bytes-bytes.ensures.value, c.as_bytes-opener.ensures.value, to_end text c.args.at) at
    (c.if-not-starts_with.ensures.bound refl) in
    let opens = opens_at text opener closer c.args.at c.requires.within short begins in
    let low = rw c.as_bytes-opener.ensures.value at c.if-kind-body.true in
    no_closer text opener closer c.args.at c.requires.within begins
    (none_from_end text opener closer c.args.at c.requires.within c.args.kind.now.end c.requires.kind.last low opens.fits)

pub returns-in_default-clause-value : goal.returns-in_default-clause-value
returns-in_default-clause-value c =
    let text = c.args.text.now in
    let opener = c.args.kind.now.opener.now in
    let closer = c.args.kind.now.closer.now in
    let begins = sym (rw (
      c.as_bytes-bytes.ensures.value,
      c.as_bytes-opener.ensures.value,
      to_end text c.args.at,
    ) at c.if-not-starts_with.ensures.value) in
    let short = rw (c.as_bytes-bytes.ensures.value, c.as_bytes-opener.ensures.value, to_end text c.args.at) at
    (c.if-not-starts_with.ensures.bound refl) in
    let opens = opens_at text opener closer c.args.at c.requires.within short begins in
    let found = rw (
      c.as_bytes-bytes.ensures.value,
      c.as_bytes-closer.ensures.value,
      c.as_bytes-opener.ensures.value,
      to_end text (c.args.at + length opener),
    ) at c.in_default.ensures in
    no_closer text opener closer c.args.at c.requires.within begins found

pub returns-clause-value : goal.returns-clause-value
returns-clause-value c =
    let text = c.args.text.now in
    let opener = c.args.kind.now.opener.now in
    let closer = c.args.kind.now.closer.now in
    let begins = sym (rw (
      c.as_bytes-bytes.ensures.value,
      c.as_bytes-opener.ensures.value,
      to_end text c.args.at,
    ) at c.if-not-starts_with.ensures.value) in
    let short = rw (c.as_bytes-bytes.ensures.value, c.as_bytes-opener.ensures.value, to_end text c.args.at) at
    (c.if-not-starts_with.ensures.bound refl) in
    let opens = opens_at text opener closer c.args.at c.requires.within short begins in
    let found = rw (
      c.as_bytes-bytes.ensures.value,
      c.as_bytes-closer.ensures.value,
      c.as_bytes-opener.ensures.value,
      to_end text (c.args.at + length opener),
    ) at c.in-Some.ensures in
    rw (c.as_bytes-opener.ensures.value, c.as_bytes-closer.ensures.value)
    (closes_at text opener closer c.args.at c.requires.within begins c.in-Some.place found)

pub returns-clause-start : goal.returns-clause-start
returns-clause-start c =
    let text = c.args.text.now in
    let opener = c.args.kind.now.opener.now in
    let closer = c.args.kind.now.closer.now in
    let begins = sym (rw (
      c.as_bytes-bytes.ensures.value,
      c.as_bytes-opener.ensures.value,
      to_end text c.args.at,
    ) at c.if-not-starts_with.ensures.value) in
    let short = rw (c.as_bytes-bytes.ensures.value, c.as_bytes-opener.ensures.value, to_end text c.args.at) at
    (c.if-not-starts_with.ensures.bound refl) in
    let opens = opens_at text opener closer c.args.at c.requires.within short begins in
    cut_before text opener c.utf8.text (rw c.as_bytes-opener.ensures.value at c.as_bytes-opener.ensures.utf8) c.args.at
    c.requires.kind.opens opens

pub returns-clause-cut : goal.returns-clause-cut
returns-clause-cut c =
    let text = c.args.text.now in
    let opener = c.args.kind.now.opener.now in
    let closer = c.args.kind.now.closer.now in
    let begins = sym (rw (
      c.as_bytes-bytes.ensures.value,
      c.as_bytes-opener.ensures.value,
      to_end text c.args.at,
    ) at c.if-not-starts_with.ensures.value) in
    let short = rw (c.as_bytes-bytes.ensures.value, c.as_bytes-opener.ensures.value, to_end text c.args.at) at
    (c.if-not-starts_with.ensures.bound refl) in
    let opens = opens_at text opener closer c.args.at c.requires.within short begins in
    let found = rw (
      c.as_bytes-bytes.ensures.value,
      c.as_bytes-closer.ensures.value,
      c.as_bytes-opener.ensures.value,
      to_end text (c.args.at + length opener),
    ) at c.in-Some.ensures in
    let utf8 = rw c.as_bytes-closer.ensures.value at c.as_bytes-closer.ensures.utf8 in
    rw (c.as_bytes-opener.ensures.value, c.as_bytes-closer.ensures.value)
    (cuts_end text opener closer c.args.at c.requires.within c.utf8.text utf8 c.requires.kind.closes opens.fits c.in-Some.place found)
