-- The nodes of Jekyll's language are discreet, so its laws in a sandbox hold.
use Rattle.liquid_extend.specs.laws.Hiding.{hides_beside}
use Rattle.liquid_plugins.specs.meaning.Chain.{FilterMeaning}
use Rattle.liquid_template.proofs.Isolation.{isolated, outsides_agree}
use Rattle.liquid_std.specs.meaning.marks.Held.{MarksIn}
use Rattle.liquid_std.specs.laws.BlockLaws.{blocks_hide}
use Rattle.liquid_std.specs.laws.TagLaws.{tags_hide}
use Rattle.jekyll_tags.specs.laws.Hidden.{inclusions_hide}
use Rattle.jekyll_tags.specs.laws.HighlightsHide.{highlights_hide}
use Rattle.jekyll_tags.specs.laws.LinksHide.{links_hide}
use Rattle.jekyll_language.specs.laws.Sandboxes.{JekyllAgrees, JekyllIsolated}
use Rattle.jekyll_language.specs.meaning.Rendered.{jekyll}

module _ {Reg F : Type 0} (held : MarksIn Reg) (fresh : Reg) (m : FilterMeaning F) where
  pub jekyll_isolated : JekyllIsolated held fresh m
  jekyll_isolated finds =
      isolated (jekyll held fresh m finds) (hides_beside (tags_hide held m) (hides_beside (inclusions_hide m) (links_hide m)))
      (hides_beside (blocks_hide held) highlights_hide)

  pub jekyll_agrees : JekyllAgrees held fresh m
  jekyll_agrees finds =
      outsides_agree (jekyll held fresh m finds) (hides_beside (tags_hide held m) (hides_beside (inclusions_hide m) (links_hide m)))
      (hides_beside (blocks_hide held) highlights_hide)
