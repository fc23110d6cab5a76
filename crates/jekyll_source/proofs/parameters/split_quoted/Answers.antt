use Rattle.std.proofs.Common.{◌<◌, ◌≤◌, ◌≡◌, ap, arith, drop, false, get_or, length, subst, sym, take, ◌∙◌}
use Rattle.std.proofs.lemmas.Str.{IsCharBoundary-after_ascii, IsCharBoundary-before_ascii}
use Rattle.jekyll_source.specs.declared.literals.Quote.{Quote}
use Rattle.jekyll_source.specs.meaning.Parameters.{quoted_len}
use Rattle.jekyll_source.specs.steps.Parts.{quote_byte}
use Rattle.jekyll_source.proofs.NameLemmas.{from_start}
use Rattle.jekyll_source.proofs.ParameterLemmas.{end_is_ascii, none_quoted, quoted_ends, quoted_turn, some_quoted, unended}
use Rattle.jekyll_source.proofs.parameters.split_quoted.Goals as goal

pub loop-at-init : goal.loop-at-init
loop-at-init c = from_start (quoted_len (quote_byte c.args.quote) false c.args.text.now)

pub range-requires-clause-end_boundary : goal.range-requires-clause-end_boundary
range-requires-clause-end_boundary c =
    let same = c.as_bytes-byte-items.ensures.value in
    let within : c.loop-at.at < length c.args.text.now = rw (sym same) c.loop-at-test.true in
    let ends = rw same at (sym c.ends_text.ensures ∙ c.if-ends_text.true) in
    IsCharBoundary-before_ascii c.args.text.now c.loop-at.at within (end_is_ascii c.loop-at.escaped _ c.args.quote ends)

pub range_from-requires : goal.range_from-requires
range_from-requires c =
    let same = c.as_bytes-byte-items.ensures.value in
    let within : c.loop-at.at < length c.args.text.now = rw (sym same) c.loop-at-test.true in
    let ends = rw same at (sym c.ends_text.ensures ∙ c.if-ends_text.true) in
    λ _. IsCharBoundary-after_ascii c.args.text.now c.loop-at.at c.utf8.text within (end_is_ascii c.loop-at.escaped _ c.args.quote ends)

pub returns-then-ends_text-clause-value : goal.returns-then-ends_text-clause-value
returns-then-ends_text-clause-value c =
    let same = c.as_bytes-byte-items.ensures.value in
    let within : c.loop-at.at < length c.args.text.now = rw (sym same) c.loop-at-test.true in
    let ends = rw same at (sym c.ends_text.ensures ∙ c.if-ends_text.true) in
    some_quoted c.args.text.now _ _ _ c.loop-at.at
    (quoted_ends (quote_byte c.args.quote) c.args.text.now _ c.loop-at.at c.loop-at.escaped within ends c.loop-at.invariant)
    c.range.ensures.value c.range_from.ensures.value

pub returns-clause-value : goal.returns-clause-value
returns-clause-value c =
    let same = c.as_bytes-byte-items.ensures.value in
    let low : length c.args.text.now ≤ c.loop-at.at = rw (sym same) c.loop-at-test.false in
    none_quoted c.args.text.now _
    (unended (quote_byte c.args.quote) c.args.text.now _ c.loop-at.at c.loop-at.escaped low c.loop-at.invariant)

pub loop-at-preserved : goal.loop-at-preserved
loop-at-preserved c =
    let same = c.as_bytes-byte-items.ensures.value in
    let within : c.loop-at.at < length c.args.text.now = rw (sym same) c.loop-at-test.true in
    let goes = rw same at (sym c.ends_text.ensures ∙ c.if-ends_text.false) in
    let next = rw same at c.escapes_next-escaped.ensures in
    quoted_turn (quote_byte c.args.quote) c.args.text.now _ c.loop-at.at c.loop-at.escaped c.escapes_next-escaped.result within goes next
    c.loop-at.invariant
