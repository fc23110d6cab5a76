use Rattle.std.proofs.Common.{[], ◌∷◌, arith}
use Rattle.std.proofs.lemmas.List.Elements.{All-nil, All-cons}
use Rattle.liquid_strings.specs.steps.Kinds.{FitsText}
use Rattle.liquid_strings.proofs.TagLemmas.{fits_text}
use Rattle.liquid_strings.proofs.tags.strip_tags.Goals as goal

pub leave_out-requires : goal.leave_out-requires
leave_out-requires c =
    let P = FitsText c.args.text.now in
    let script = c.parts_of-script.ensures in
    let comment = c.parts_of-comment.ensures in
    let style = c.parts_of-style.ensures in
    let first = c.parts_of-script.result in
    let second = c.parts_of-comment.result in
    let third = c.parts_of-style.result in
    All-cons P first (second ∷ third ∷ []) (fits_text _ _ _ first script.opener script.closer (omega arith) (omega arith) script.end)
    (All-cons P second (third ∷ []) (fits_text _ _ _ second comment.opener comment.closer (omega arith) (omega arith) comment.end)
    (All-cons P third [] (fits_text _ _ _ third style.opener style.closer (omega arith) (omega arith) style.end) (All-nil P)))

pub leave_out-requires-2 : goal.leave_out-requires-2
leave_out-requires-2 c =
    let P = FitsText c.as_str-rest.result.now in
    let tag = c.parts_of-tag.ensures in
    All-cons P c.parts_of-tag.result [] (fits_text _ _ _ c.parts_of-tag.result tag.opener tag.closer (omega arith) (omega arith) tag.end)
    (All-nil P)

pub returns : goal.returns
returns c =
    let script = c.parts_of-script.ensures in
    let comment = c.parts_of-comment.ensures in
    let style = c.parts_of-style.ensures in
    let tag = c.parts_of-tag.ensures in
    rw (
      tag.opener,
      tag.closer,
      c.as_str-rest.ensures.value,
      c.in_ok-without_blocks.ensures,
      script.opener,
      script.closer,
      comment.opener,
      comment.closer,
      style.opener,
      style.closer,
    ) at c.leave_out-2.ensures
