use Rattle.std.proofs.Common.{◌≡◌, drop, map}
use Rattle.liquid_extend.specs.declared.beside.one_of.Beside.TheVariants.{Library}
use Rattle.liquid_tags.specs.meaning.Languages.{under_names}
use Rattle.liquid_beside.specs.meaning.Languages.{own_start}
use Rattle.liquid_beside.proofs.languages.add_standard_blocks.Given as goal

abbrev pub invariant-loop-block : goal.invariant-loop-block
invariant-loop-block g l =
    let name = own_start g.B.BlockReflection.block_names in
    under_names name l.blocks (map Library (drop l.block-index l.standard)) ≡ under_names name l.initial.blocks (map Library l.standard)
