-- A text that the library reads is read as its image.
use Rattle.std.proofs.Common.{◌≡◌, ℕ, List, [], ◌∷◌, map, Ok, sym, ap, ◌∙◌}
use Rattle.liquid_error.specs.meaning.Refusal.{ok_then}
use Rattle.liquid_grammar.specs.meaning.Cover.{Element, joined}
use Rattle.liquid_plugins.specs.meaning.Nodes.{NodeShape}
use Rattle.liquid_parser.specs.meaning.Lang.{Filters}
use Rattle.liquid_parser.specs.meaning.Reading.{ended, read, step}
use Rattle.liquid_tags.specs.declared.blocks.BlockShape.{BlockShape}
use Rattle.liquid_tags.specs.declared.tags.TagShape.{TagShape}
use Rattle.liquid_tags.specs.meaning.Languages as languages
use Rattle.liquid_std.specs.meaning.Languages.{tags_and_blocks}
use Rattle.liquid_laws.specs.meaning.superset.Images.{node_image}
use Rattle.liquid_laws.specs.laws.superset.Superset.{ReadsImages}
use Rattle.liquid_laws.proofs.StepLemmas.{Reading, among_nodes, inside_raw, new_state, old_state, reads_step}
use Rattle.liquid_laws.proofs.TokenLemmas.{made_from, same_value}

module _ {F : Type 0} (filters : Filters F) (source : List ℕ) where
  reads_end : (r : Reading F) (nodes : List (NodeShape F (TagShape F) BlockShape)) → ended source (old_state r) ≡ Ok nodes
      → ended source (new_state r) ≡ Ok (map node_image nodes)
  reads_end (among_nodes [] ns) nodes is = ap (λ l. Ok (map node_image l)) (same_value ns nodes is)
  reads_end (among_nodes (o ∷ os) ns) nodes is = cc is
  reads_end (inside_raw text is_closed place before ps os level so_far) nodes is = cc is

  reads_all : (r : Reading F) (es : List Element) (nodes : List (NodeShape F (TagShape F) BlockShape))
      → read (languages.tags_and_blocks filters) source 0 (old_state r) es ≡ Ok nodes
      → read (tags_and_blocks filters) source 0 (new_state r) es ≡ Ok (map node_image nodes)
  reads_all r [] nodes is = reads_end r nodes is
  reads_all r (e ∷ es) nodes is =
      let read_on =
      made_from (step (languages.tags_and_blocks filters) source 0 (old_state r) e (joined es))
      (λ next. read (languages.tags_and_blocks filters) source 0 next es) nodes is in
      let follows = reads_step filters source 0 r e (joined es) read_on.0 read_on.1 in
      ap (λ s. ok_then s (λ next. read (tags_and_blocks filters) source 0 next es)) follows.2
      ∙ reads_all follows.0 es nodes (ap (λ s. read (languages.tags_and_blocks filters) source 0 s es) (sym follows.1) ∙ read_on.2)

pub reads_images : {F : Type 0} (filters : Filters F) → ReadsImages filters
reads_images filters text nodes reads =
    record {
      elements = reads.elements;
      cover = reads.cover;
      is = sym
          (reads_all filters text (among_nodes [] []) reads.elements nodes (sym reads.is));
    }
