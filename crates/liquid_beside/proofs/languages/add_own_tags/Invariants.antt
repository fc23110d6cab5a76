use Rattle.std.proofs.Common.{◌≡◌, drop, map}
use Rattle.liquid_extend.specs.declared.beside.one_of.Beside.TheVariants.{Own}
use Rattle.liquid_tags.specs.meaning.Languages.{under_names}
use Rattle.liquid_beside.specs.meaning.Languages.{own_tag}
use Rattle.liquid_beside.proofs.languages.add_own_tags.Given as goal

abbrev pub invariant-loop-tag : goal.invariant-loop-tag
invariant-loop-tag g l =
    let name = own_tag g.O.TagReflection.tag_name in
    under_names name l.tags (map Own (drop l.tag-index l.own)) ≡ under_names name l.initial.tags (map Own l.own)
