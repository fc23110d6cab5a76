-- The nodes of the library are discreet, so its laws in a sandbox hold.
use Rattle.liquid_plugins.specs.meaning.Chain.{FilterMeaning}
use Rattle.liquid_template.proofs.Isolation.{isolated, outsides_agree}
use Rattle.liquid_tags.specs.laws.BlockLaws.{blocks_hide}
use Rattle.liquid_tags.specs.laws.TagLaws.{tags_hide}
use Rattle.liquid_tags.specs.laws.Sandboxes.{LibraryAgrees, LibraryIsolated}
use Rattle.liquid_tags.specs.meaning.Library.{library}

module _ {Reg F : Type 0} (fresh : Reg) (m : FilterMeaning F) where
  pub library_isolated : LibraryIsolated fresh m
  library_isolated finds = isolated (library fresh m finds) (tags_hide m) blocks_hide

  pub library_agrees : LibraryAgrees fresh m
  library_agrees finds = outsides_agree (library fresh m finds) (tags_hide m) blocks_hide
