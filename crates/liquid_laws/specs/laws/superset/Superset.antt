-- The standard language extends the language of `liquid_tags`.
use Rattle.std.specs.Prelude.{◌≡◌, ℕ, List, map, Option, None, Some, Ok}
use Rattle.liquid_runtime.specs.meaning.View.{View}
use Rattle.liquid_plugins.specs.meaning.Chain.{FilterMeaning}
use Rattle.liquid_plugins.specs.meaning.Nodes.{NodeShape, Nodes}
use Rattle.liquid_parser.specs.meaning.Lang.{Filters}
use Rattle.liquid_parser.specs.meaning.Reading.{Reads}
use Rattle.liquid_template.specs.meaning.Partials.{Found, partial_in}
use Rattle.liquid_template.specs.meaning.Rendering.{template_run}
use Rattle.liquid_tags.specs.declared.blocks.BlockShape.{BlockShape}
use Rattle.liquid_tags.specs.declared.tags.TagShape.{TagShape}
use Rattle.liquid_tags.specs.meaning.Languages as library
use Rattle.liquid_std.specs.meaning.marks.Held.{MarksIn}
use Rattle.liquid_std.specs.declared.blocks.StdBlockShape.{StdBlockShape}
use Rattle.liquid_std.specs.declared.tags.StdTagShape.{StdTagShape}
use Rattle.liquid_std.specs.meaning.Languages.{tags_and_blocks}
use Rattle.liquid_std.specs.meaning.Standard.{standard}
use Rattle.liquid_laws.specs.meaning.superset.Images.{node_image, nodes_image, partial_image}
use Rattle.liquid_laws.specs.meaning.superset.Isolating.{isolating}

-- a text that the library reads as nodes is read as their images
abbrev pub ReadsImages : {F : Type 0} → Filters F → Type 0
ReadsImages {F} filters =
    (text : List ℕ) (nodes : List (NodeShape F (TagShape F) BlockShape))
    → Reads (library.tags_and_blocks filters) text (Ok nodes) → Reads (tags_and_blocks filters) text (Ok (map node_image nodes))

module _ {F : Type 0} where
  -- under each name is the image of what another store has there
  abbrev pub AreImages : Option (Found F (TagShape F) BlockShape) → Option (Found F (StdTagShape F) StdBlockShape) → Type 0
  AreImages None images = images ≡ None
  AreImages (Some finds) None = ⊥
  AreImages (Some finds) (Some images) = (name : List ℕ) → partial_in images name ≡ partial_image (partial_in finds name)

  -- the image of nodes has their run, over the images of their partials
  abbrev pub RunsImages : {Reg : Type 0} → MarksIn Reg → Reg → FilterMeaning F → Type 0
  RunsImages {Reg} held fresh m =
      (finds : Option (Found F (TagShape F) BlockShape)) (images : Option (Found F (StdTagShape F) StdBlockShape)) → AreImages finds images
      → (ns : Nodes F (TagShape F) BlockShape) (v : View Reg)
      → template_run (standard held fresh m images) (nodes_image ns) v ≡ template_run (isolating fresh m finds) ns v
