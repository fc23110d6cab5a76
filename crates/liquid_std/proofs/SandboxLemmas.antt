-- The nodes of the standard language are discreet, so its laws in a sandbox hold.
use Rattle.liquid_plugins.specs.meaning.Chain.{FilterMeaning}
use Rattle.liquid_template.proofs.Isolation.{isolated, outsides_agree}
use Rattle.liquid_std.specs.meaning.marks.Held.{MarksIn}
use Rattle.liquid_std.specs.laws.BlockLaws.{blocks_hide}
use Rattle.liquid_std.specs.laws.TagLaws.{tags_hide}
use Rattle.liquid_std.specs.laws.Sandboxes.{StandardAgrees, StandardIsolated}
use Rattle.liquid_std.specs.meaning.Standard.{standard}

module _ {Reg F : Type 0} (held : MarksIn Reg) (fresh : Reg) (m : FilterMeaning F) where
  pub standard_isolated : StandardIsolated held fresh m
  standard_isolated finds = isolated (standard held fresh m finds) (tags_hide held m) (blocks_hide held)

  pub standard_agrees : StandardAgrees held fresh m
  standard_agrees finds = outsides_agree (standard held fresh m finds) (tags_hide held m) (blocks_hide held)
