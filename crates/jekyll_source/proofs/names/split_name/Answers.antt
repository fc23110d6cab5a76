use Rattle.std.proofs.Common.{◌<◌, ◌≤◌, None, Some, ap, arith, cond, false, get_or, length, sym, ◌∙◌}
use Rattle.std.proofs.lemmas.Str.{IsCharBoundary-before_ascii}
use Rattle.std.specs.Option.{option_map}
use Rattle.liquid_strings.proofs.HtmlLemmas.{to_end}
use Rattle.jekyll_source.specs.meaning.Names.{name_len}
use Rattle.jekyll_source.specs.meaning.Splits.{split_at}
use Rattle.jekyll_source.proofs.NameLemmas.{from_start, name_at_end, name_ends, name_turn, none_split, some_split, white_is_ascii}
use Rattle.jekyll_source.proofs.names.split_name.Goals as goal

pub loop-at-init : goal.loop-at-init
loop-at-init c = from_start (name_len false c.args.text.now)

pub split_at-requires : goal.split_at-requires
split_at-requires c =
    let same = c.as_bytes-bytes.ensures.value in
    let within : c.loop-at.at < length c.args.text.now = rw (sym same) c.loop-at-test.true in
    let ends = rw same at (sym c.ends_name.ensures ∙ c.if-ends_name.true) in
    IsCharBoundary-before_ascii c.args.text.now c.loop-at.at within (white_is_ascii c.loop-at.inside _ ends)

pub returns-then-ends_name : goal.returns-then-ends_name
returns-then-ends_name c =
    let same = c.as_bytes-bytes.ensures.value in
    let within : c.loop-at.at < length c.args.text.now = rw (sym same) c.loop-at-test.true in
    let ends = rw same at (sym c.ends_name.ensures ∙ c.if-ends_name.true) in
    some_split c.args.text.now _ _ _ c.loop-at.at
    (name_ends c.args.text.now _ c.loop-at.at c.loop-at.inside within ends c.loop-at.invariant)
    c.split_at.ensures.front c.split_at.ensures.back

pub loop-at-preserved : goal.loop-at-preserved
loop-at-preserved c =
    let same = c.as_bytes-bytes.ensures.value in
    let within : c.loop-at.at < length c.args.text.now = rw (sym same) c.loop-at-test.true in
    let goes = rw same at (sym c.ends_name.ensures ∙ c.if-ends_name.false) in
    let next = rw (same, to_end c.args.text.now c.loop-at.at) at c.stays_inside-inside.ensures in
    name_turn c.args.text.now _ c.loop-at.at c.loop-at.inside c.stays_inside-inside.result within goes next c.loop-at.invariant

pub returns-then-inside : goal.returns-then-inside
returns-then-inside c =
    let same = c.as_bytes-bytes.ensures.value in
    let low : length c.args.text.now ≤ c.loop-at.at = rw (sym same) c.loop-at-test.false in
    let high : c.loop-at.at ≤ length c.args.text.now = rw (sym same) c.loop-at.auto.at-end in
    none_split c.args.text.now _
    (name_at_end c.args.text.now _ c.loop-at.at c.loop-at.inside low high c.loop-at.invariant
    ∙ ap (λ t. cond t None (Some (length c.args.text.now))) c.if-inside.true)

pub returns-else-inside : goal.returns-else-inside
returns-else-inside c =
    let same = c.as_bytes-bytes.ensures.value in
    let low : length c.args.text.now ≤ c.loop-at.at = rw (sym same) c.loop-at-test.false in
    let high : c.loop-at.at ≤ length c.args.text.now = rw (sym same) c.loop-at.auto.at-end in
    some_split c.args.text.now _ _ _ (length c.args.text.now)
    (name_at_end c.args.text.now _ c.loop-at.at c.loop-at.inside low high c.loop-at.invariant
    ∙ ap (λ t. cond t None (Some (length c.args.text.now))) c.if-inside.false)
    c.split_at-else-inside.ensures.front c.split_at-else-inside.ensures.back
