-- The image of a template has its run.
use Rattle.std.proofs.Common.{◌≡◌, ℕ, zero, suc, List, [], ◌∷◌, Option, None, Some, option_map, Result, Ok, Err, refl, ap, ◌∙◌}
use Rattle.std.proofs.Math.Path.{fun_ext}
use Rattle.liquid_error.specs.meaning.Refusal.{Refusal, ok_then}
use Rattle.liquid_runtime.specs.meaning.View.{View}
use Rattle.liquid_runtime.specs.meaning.Written.{with_written}
use Rattle.liquid_plugins.specs.meaning.Chain.{FilterMeaning}
use Rattle.liquid_plugins.specs.meaning.Nodes.{
  NodeShape,
  text_node,
  chain_node,
  tag_node,
  block_node,
  Nodes,
  no_nodes,
  node,
  Parts,
  no_parts,
  part,
}
use Rattle.liquid_plugins.specs.meaning.Turns.{TurnShape, text_turn, body_turn, partial_turn, capture_turn, end_turn, NodeMeaning}
use Rattle.liquid_template.specs.meaning.Actions.{and_then, asks, part_at, silent, under, unless_interrupted}
use Rattle.liquid_template.specs.meaning.Nodes.{Setting, answered, performed, played, run_node, run_nodes, run_parts, started, turns}
use Rattle.liquid_template.specs.meaning.Partials.{Found, partial_in, partials_at, read_as, sought}
use Rattle.liquid_template.specs.meaning.Rendering.{template_run}
use Rattle.liquid_template.specs.meaning.Run.{Action, written}
use Rattle.liquid_tags.specs.declared.blocks.BlockShape.{BlockShape}
use Rattle.liquid_tags.specs.declared.tags.TagShape.{TagShape}
use Rattle.liquid_tags.specs.meaning.Blocks as library
use Rattle.liquid_std.specs.meaning.marks.Held.{MarksIn}
use Rattle.liquid_std.specs.declared.blocks.StdBlockShape.{StdBlockShape}
use Rattle.liquid_std.specs.declared.tags.StdTagShape.{StdTagShape}
use Rattle.liquid_std.specs.declared.tags.StdTagProgressShape.TheVariants.{Turns}
use Rattle.liquid_std.specs.declared.tags.StdTagShape.TheVariants.{Library}
use Rattle.liquid_std.specs.meaning.Blocks.{block_nodes}
use Rattle.liquid_std.specs.meaning.Standard.{standard}
use Rattle.liquid_std.specs.meaning.Tags.{tag_nodes}
use Rattle.liquid_laws.specs.laws.superset.Superset.{AreImages, RunsImages}
use Rattle.liquid_laws.specs.meaning.superset.Images.{block_image, node_image, nodes_image, partial_image, parts_image}
use Rattle.liquid_laws.specs.meaning.superset.Isolating.{isolating, isolating_tags}
use Rattle.liquid_laws.proofs.MeaningLemmas.{begins_kept, catches_kept, counts_kept, progress_image, takes_kept}

module _ {Reg F T P B Q U R C S : Type 0} (old : Setting Reg F T P B Q) (new : Setting Reg F U R C S) (fresh : new.fresh ≡ old.fresh)
    (partials : List ℕ → Action Reg) (parts : List (Action Reg)) where
  performed_kept : (turn : TurnShape) → performed new partials parts turn ≡ performed old partials parts turn
  unfolding performed
  performed_kept (text_turn piece) = refl
  performed_kept (body_turn place frame trace) = ap (λ f. under f frame trace (part_at parts place)) fresh
  performed_kept (partial_turn name frame trace) = ap (λ f. under f frame trace (partials name)) fresh
  performed_kept (capture_turn place frame trace) = ap (λ f. under f frame trace (part_at parts place)) fresh
  performed_kept end_turn = refl

  -- a node whose progress has an image, and the node that answers the same with the image
  module _ {N X M Y : Type 0} (m : NodeMeaning N X Reg) (k : NodeMeaning M Y Reg) (n : N) (image : M) (of : X → Y)
      (starts : (v : View Reg) → k.starts image v ≡ record {
        answer = ok_then (m.starts n v).answer (λ p. Ok (of p));
        progress = (m.starts n v).progress;
        written = (m.starts n v).written;
      })
      (counts : (p : X) → k.count (of p) ≡ m.count p)
      (takes : (p : X) (v : View Reg) → k.takes image (of p) v ≡ record {
        answer = (m.takes n p v).answer;
        progress = of (m.takes n p v).progress;
        written = (m.takes n p v).written;
      })
      (catches : (p : X) (text : List ℕ) → k.catches image (of p) text ≡ of (m.catches n p text)) where
    moved : (turn : TurnShape) (p : X) (rest : X → Action Reg) (after : Y → Action Reg) → ((q : X) → after (of q) ≡ rest q) → (v : View Reg)
        → and_then (performed new partials parts turn v) (after (of p)) ≡ and_then (performed old partials parts turn v) (rest p)
    moved turn p rest after same v =
        ap (λ (a : Action Reg). and_then (a v) (after (of p))) (performed_kept turn)
        ∙ ap (and_then (performed old partials parts turn v)) (same p)

    answered_kept : (a : Result TurnShape Refusal) (p : X) (rest : X → Action Reg) (after : Y → Action Reg)
        → ((q : X) → after (of q) ≡ rest q) → (v : View Reg)
        → answered new partials k image parts a (of p) after v ≡ answered old partials m n parts a p rest v
    answered_kept (Err refusal) p rest after same v = refl
    answered_kept (Ok (text_turn piece)) p rest after same v = moved (text_turn piece) p rest after same v
    answered_kept (Ok (body_turn place frame trace)) p rest after same v = moved (body_turn place frame trace) p rest after same v
    answered_kept (Ok (partial_turn name frame trace)) p rest after same v = moved (partial_turn name frame trace) p rest after same v
    answered_kept (Ok (capture_turn place frame trace)) p rest after same v =
        let r = performed old partials parts (capture_turn place frame trace) v in
        ap (λ (a : Action Reg). and_then (silent (a v)) (after (k.catches image (of p) (written (a v)))))
        (performed_kept (capture_turn place frame trace))
        ∙ ap (λ q. and_then (silent r) (after q)) (catches p (written r))
        ∙ ap (and_then (silent r)) (same (m.catches n p (written r)))
    answered_kept (Ok end_turn) p rest after same v = refl

    turns_kept : (left : ℕ) (p : X) → turns new partials k image parts left (of p) ≡ turns old partials m n parts left p
    unfolding turns
    turns_kept zero p = fun_ext (λ v. refl)
    turns_kept (suc left) p = fun_ext (λ v. ap (and_then (asks v)) (fun_ext (λ w.
        ap (λ t. answered new partials k image parts t.answer t.progress (turns new partials k image parts left) (with_written t.written w))
        (takes p w)
        ∙ answered_kept (m.takes n p w).answer (m.takes n p w).progress (turns old partials m n parts left)
        (turns new partials k image parts left) (turns_kept left) (with_written (m.takes n p w).written w))))

    started_kept : (a : Result X Refusal) (v : View Reg) → started new partials k image parts
        (ok_then a (λ p. Ok (of p))) v ≡ started old partials m n parts a v
    started_kept (Err refusal) v = refl
    started_kept (Ok p) v =
        ap (λ c. turns new partials k image parts c (of p) v) (counts p) ∙ ap (λ (a : Action Reg). a v) (turns_kept (m.count p) p)

    played_kept : played new partials k image parts ≡ played old partials m n parts
    unfolding played
    played_kept =
        fun_ext (λ v. ap (λ t. started new partials k image parts t.answer (with_written t.written v)) (starts v)
        ∙ started_kept (m.starts n v).answer (with_written (m.starts n v).written v))

module _ {Reg F : Type 0} (held : MarksIn Reg) (fresh : Reg) (m : FilterMeaning F) where
  module _ (finds : Option (Found F (TagShape F) BlockShape)) (images : Option (Found F (StdTagShape F) StdBlockShape))
      (partials : List ℕ → Action Reg) where
    tag_kept : (n : TagShape F) → played (standard held fresh m images) partials (tag_nodes held m) (Library n) [] ≡ played
        (isolating fresh m finds) partials (isolating_tags m) n []
    tag_kept n =
        played_kept (isolating fresh m finds) (standard held fresh m images) refl partials [] (isolating_tags m) (tag_nodes held m) n
        (Library n) (λ p. Turns p)
        (λ v. refl) (λ p. refl) (λ p v. refl) (λ p text. refl)

    block_kept : (b : BlockShape) (parts : List (Action Reg)) → played (standard held fresh m images) partials (block_nodes held)
        (block_image b) parts ≡ played (isolating fresh m finds) partials library.block_nodes b parts
    block_kept b parts =
        played_kept (isolating fresh m finds) (standard held fresh m images) refl partials parts library.block_nodes (block_nodes held) b
        (block_image b) progress_image
        (λ v. ap (λ r. record { answer = r; progress = tt; written = (library.block_nodes.starts b v).written }) (begins_kept v b))
        counts_kept (takes_kept held b) (catches_kept b)

    mutual
      unfolding run_node run_nodes run_parts

      node_kept : (n : NodeShape F (TagShape F) BlockShape) → run_node (standard held fresh m images) partials (node_image n) ≡ run_node
          (isolating fresh m finds) partials n
      node_kept (text_node text) = refl
      node_kept (chain_node c) = refl
      node_kept (tag_node n) = tag_kept n
      node_kept (block_node b ps) =
          ap (played (standard held fresh m images) partials (block_nodes held) (block_image b)) (parts_kept ps)
          ∙ block_kept b (run_parts (isolating fresh m finds) partials ps)

      nodes_kept : (ns : Nodes F (TagShape F) BlockShape) → run_nodes (standard held fresh m images) partials (nodes_image ns) ≡ run_nodes
          (isolating fresh m finds) partials ns
      nodes_kept no_nodes = refl
      nodes_kept (node n ns) = fun_ext (λ v.
          ap (λ (a : Action Reg). and_then (a v) (unless_interrupted (run_nodes (standard held fresh m images) partials (nodes_image ns))))
          (node_kept n)
          ∙ ap (λ a. and_then (run_node (isolating fresh m finds) partials n v) (unless_interrupted a)) (nodes_kept ns))

      parts_kept : (ps : Parts F (TagShape F) BlockShape) → run_parts (standard held fresh m images) partials (parts_image ps) ≡ run_parts
          (isolating fresh m finds) partials ps
      parts_kept no_parts = refl
      parts_kept (part ns ps) =
          ap (λ a. a ∷ run_parts (standard held fresh m images) partials (parts_image ps)) (nodes_kept ns)
          ∙ ap (λ bs. run_nodes (isolating fresh m finds) partials ns ∷ bs) (parts_kept ps)

  module _ (after : Nodes F (StdTagShape F) StdBlockShape → Action Reg) (rest : Nodes F (TagShape F) BlockShape → Action Reg)
      (same : (ns : Nodes F (TagShape F) BlockShape) → after (nodes_image ns) ≡ rest ns) where
    read_kept : (r : Result (Nodes F (TagShape F) BlockShape) Refusal) → read_as (partial_image r) after ≡ read_as r rest
    read_kept (Ok ns) = same ns
    read_kept (Err refusal) = refl

    sought_kept : (finds : Option (Found F (TagShape F) BlockShape)) (images : Option (Found F (StdTagShape F) StdBlockShape))
        → AreImages finds images → (name : List ℕ)
        → sought (option_map partial_in images) name after ≡ sought (option_map partial_in finds) name rest
    sought_kept None images none name = ap (λ i. sought (option_map partial_in i) name after) none
    sought_kept (Some finds) None none name = absurd none
    sought_kept (Some finds) (Some images) are name = ap (λ r. read_as r after) (are name) ∙ read_kept (partial_in finds name)

  module _ (finds : Option (Found F (TagShape F) BlockShape)) (images : Option (Found F (StdTagShape F) StdBlockShape))
      (are : AreImages finds images) where
    partials_kept : (depth : ℕ) → partials_at (standard held fresh m images) depth ≡ partials_at (isolating fresh m finds) depth
    unfolding partials_at
    partials_kept zero = refl
    partials_kept (suc depth) = fun_ext (λ name.
        ap (λ ps. sought (option_map partial_in images) name (run_nodes (standard held fresh m images) ps)) (partials_kept depth)
        ∙ sought_kept (run_nodes (standard held fresh m images) (partials_at (isolating fresh m finds) depth))
        (run_nodes (isolating fresh m finds) (partials_at (isolating fresh m finds) depth))
        (nodes_kept finds images (partials_at (isolating fresh m finds) depth)) finds images are name)

    pub template_kept : (ns : Nodes F (TagShape F) BlockShape) (v : View Reg)
        → template_run (standard held fresh m images) (nodes_image ns) v ≡ template_run (isolating fresh m finds) ns v
    template_kept ns v =
        ap (λ ps. run_nodes (standard held fresh m images) ps (nodes_image ns) v) (partials_kept v.depth)
        ∙ ap (λ (a : Action Reg). a v) (nodes_kept finds images (partials_at (isolating fresh m finds) v.depth) ns)

  pub runs_images : RunsImages held fresh m
  runs_images finds images are ns v = template_kept finds images are ns v
