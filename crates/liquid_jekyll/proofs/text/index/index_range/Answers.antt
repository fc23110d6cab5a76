use Rattle.std.proofs.Common.{◌+◌, ◌<◌, ◌≤◌, arith, drop, length, sym, ◌∙◌}
use Rattle.std.proofs.lemmas.List.{length-drop}
use Rattle.liquid_strings.proofs.HtmlLemmas.{to_end}
use Rattle.liquid_jekyll.proofs.IndexLemmas.{cuts_name, passes_on, replaces}
use Rattle.liquid_jekyll.proofs.text.index.index_range.Goals as goal

pub returns-in-Some-clause-found : goal.returns-in-Some-clause-found
returns-in-Some-clause-found c =
    let same = c.as_bytes-bytes.ensures.value in
    let text = c.args.text.now in
    let at = c.loop-at.at in
    let within : at < length text = rw (sym same) c.loop-at-test.true in
    let value = rw (same, to_end text at) at c.index_length.ensures.value in
    replaces text at within c.loop-at.invariant c.in-Some.length (sym value ∙ c.in-Some.is)

pub returns-in-Some-clause-end : goal.returns-in-Some-clause-end
returns-in-Some-clause-end c =
    let same = c.as_bytes-bytes.ensures.value in
    let text = c.args.text.now in
    let at = c.loop-at.at in
    let value = rw (same, to_end text at) at c.index_length.ensures.value in
    let n = c.in-Some.length in
    let within : at < length text = rw (sym same) c.loop-at-test.true in
    let short : n ≤ length (drop at text) = rw (same, to_end text at) at c.in-Some.ensures.within in
    let fits : at + n ≤ length text = omega (arith, length-drop at text) in
    (cuts_name text c.utf8.text at n fits (sym value ∙ c.in-Some.is)).1

pub loop-at-preserved : goal.loop-at-preserved
loop-at-preserved c =
    let same = c.as_bytes-bytes.ensures.value in
    let text = c.args.text.now in
    let at = c.loop-at.at in
    let within : at < length text = rw (sym same) c.loop-at-test.true in
    let value = rw (same, to_end text at) at c.index_length.ensures.value in
    passes_on text at within c.loop-at.invariant (sym value ∙ c.in_default.is)
