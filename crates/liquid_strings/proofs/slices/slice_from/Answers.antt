use Rattle.std.proofs.Common.{ap, ◌∙◌, take}
use Rattle.std.specs.Str.{chars, encode_utf8_all}
use Rattle.liquid_strings.proofs.CutLemmas.{chars_of_rest}
use Rattle.liquid_strings.proofs.slices.slice_from.Goals as goal

pub returns-in-Some : goal.returns-in-Some
returns-in-Some c =
    rw c.in-Some.is (c.cut-in-Some.ensures.front
    ∙ ap (λ rest. encode_utf8_all (take c.args.count (chars rest))) c.cut.ensures.back
    ∙ ap (λ cs. encode_utf8_all (take c.args.count cs)) (chars_of_rest c.args.text.now c.in-Some.start c.utf8.text))
