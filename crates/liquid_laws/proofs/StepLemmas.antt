-- One element more is read in both languages.
use Rattle.std.proofs.Common.{◌≡◌, ℕ, Bool, true, false, List, [], ◌∷◌, ◌++◌, ◌+◌, codes, length, map, Option, Some, None, option_map}
use Rattle.std.proofs.Common.{Result, Ok, Err, refl, sym, ap, ◌∙◌}
use Rattle.std.specs.FinMap.{get}
use Rattle.std.specs.List.{list_any}
use Rattle.std.specs.Prelude.{bytes_eq, if◌then◌else◌, nat_lt}
use Rattle.std.proofs.lemmas.List.{length-map}
use Rattle.liquid_error.specs.declared.place.Place.{Place}
use Rattle.liquid_error.specs.meaning.Refusal.{Refusal, ok_then}
use Rattle.liquid_grammar.specs.meaning.Cover.{Element, raw, tag_element, expression, invalid, text_of}
use Rattle.liquid_grammar.specs.meaning.Faults.{chain_fault, tag_fault}
use Rattle.liquid_grammar.specs.meaning.Tokens as token
use Rattle.liquid_plugins.specs.meaning.Nodes.{NodeShape, text_node, chain_node, tag_node}
use Rattle.liquid_parser.specs.meaning.Handed.{Tokens, expect_nothing, handed, place_in}
use Rattle.liquid_parser.specs.meaning.Lang.{Block, Filters, Lang, parts}
use Rattle.liquid_parser.specs.meaning.Reading.{Open, State, among, inside, begun, block_limit, block_with, chain_read, checked, closed}
use Rattle.liquid_parser.specs.meaning.Reading.{element_read, entered, escape_read, expression_read, finished, level_after, name_place}
use Rattle.liquid_parser.specs.meaning.Reading.{node_added, outer_read, parted, placed_at, refused_at, step, tag_given, tag_read}
use Rattle.liquid_parser.proofs.DispatchLemmas.{block_outer, divider_read, end_read, other_read, tag_outer, unknown_outer}
use Rattle.liquid_tags.specs.declared.blocks.BlockShape.{BlockShape}
use Rattle.liquid_tags.specs.declared.block_plugins.Blocks.{Blocks}
use Rattle.liquid_tags.specs.declared.block_plugins.PlanShape.{PlanShape}
use Rattle.liquid_tags.specs.declared.tag_plugins.Tags.{Tags}
use Rattle.liquid_tags.specs.declared.tags.TagShape.{TagShape}
use Rattle.liquid_tags.specs.meaning.BlockPlugins as library
use Rattle.liquid_tags.specs.meaning.Languages as languages
use Rattle.liquid_tags.specs.meaning.TagPlugins as library_tag
use Rattle.liquid_std.specs.declared.blocks.StdBlockShape.{StdBlockShape}
use Rattle.liquid_std.specs.declared.block_plugins.StdBlocks.{StdBlocks}
use Rattle.liquid_std.specs.declared.block_plugins.StdPlanShape.{StdPlanShape}
use Rattle.liquid_std.specs.declared.tag_plugins.StdTags.{StdTags}
use Rattle.liquid_std.specs.declared.tag_plugins.StdTags.TheVariants as tag
use Rattle.liquid_std.specs.declared.tags.StdTagShape.{StdTagShape}
use Rattle.liquid_std.specs.meaning.BlockPlugins as standard
use Rattle.liquid_std.specs.meaning.Languages.{tags_and_blocks}
use Rattle.liquid_std.specs.meaning.TagPlugins as standard_tag
use Rattle.liquid_laws.specs.meaning.superset.Images.{block_image, node_image}
use Rattle.liquid_laws.proofs.CallLemmas.{tag_given_kept}
use Rattle.liquid_laws.proofs.NameLemmas.{block_kept as own_block, block_named, standard_block, tag_free, tag_kept, tag_named}
use Rattle.liquid_laws.proofs.TokenLemmas.{Planned, if_plan, for_plan, raw_plan, begins, divides, kind_of, made_from, node_of, plan}
use Rattle.liquid_laws.proofs.TokenLemmas.{plan_image, same_value}
use Rattle.liquid_laws.proofs.TreeLemmas.{added, block_kept, parted as parts_added}

-- a block of the library that is open: its plan, whether an `else` has closed it, the place of its name, the nodes before
-- it and its parts
pub data Opened (F : Type 0) : Type 0 where
  opened : Planned → Bool → Place → List (NodeShape F (TagShape F) BlockShape) → List (List (NodeShape F (TagShape F) BlockShape))
      → Opened F

-- how far a text is read in both languages: among nodes, or inside the body of a `raw`
pub data Reading (F : Type 0) : Type 0 where
  among_nodes : List (Opened F) → List (NodeShape F (TagShape F) BlockShape) → Reading F
  inside_raw : List ℕ → Bool → Place → List (NodeShape F (TagShape F) BlockShape) → List (List (NodeShape F (TagShape F) BlockShape))
      → List (Opened F) → ℕ → List ℕ → Reading F

module _ {F : Type 0} where
  -- an open block in each language
  abbrev pub old_open : Opened F → Open F (TagShape F) PlanShape BlockShape
  old_open (opened p is_closed place before ps) =
      record { kind = library.whole_block (kind_of p); place = place; plan = plan p is_closed; before = before; parts = ps }

  abbrev pub new_open : Opened F → Open F (StdTagShape F) StdPlanShape StdBlockShape
  new_open (opened p is_closed place before ps) = record {
    kind = standard.whole_block (standard_block (kind_of p));
    place = place;
    plan = plan_image p is_closed;
    before = map node_image before;
    parts = map (map node_image) ps;
  }

  abbrev pub old_state : Reading F → State F (TagShape F) PlanShape BlockShape
  old_state (among_nodes os ns) = among (map old_open os) ns
  old_state (inside_raw text is_closed place before ps os level so_far) =
      inside (old_open (opened (raw_plan text) is_closed place before ps)) (map old_open os) level so_far

  abbrev pub new_state : Reading F → State F (StdTagShape F) StdPlanShape StdBlockShape
  new_state (among_nodes os ns) = among (map new_open os) (map node_image ns)
  new_state (inside_raw text is_closed place before ps os level so_far) =
      inside (new_open (opened (raw_plan text) is_closed place before ps)) (map new_open os) level so_far

  -- where the library reads on, the standard language does too
  abbrev pub Follows : Result (State F (TagShape F) PlanShape BlockShape) Refusal
      → Result (State F (StdTagShape F) StdPlanShape StdBlockShape) Refusal → Type 0
  Follows old new =
      (s : State F (TagShape F) PlanShape BlockShape) → old ≡ Ok s → (next : Reading F) × (s ≡ old_state next) × (new ≡ Ok (new_state next))

  alike : (old old' : Result (State F (TagShape F) PlanShape BlockShape) Refusal)
      (new new' : Result (State F (StdTagShape F) StdPlanShape StdBlockShape) Refusal)
      → old ≡ old' → new ≡ new' → Follows old' new' → Follows old new
  alike old old' new new' same_old same_new follows s is =
      let f = follows s (sym same_old ∙ is) in
      (f.0, f.1, same_new ∙ f.2)

unplaced : {A : Type 0} (place : Place) (r : Result A Refusal) (x : A) → placed_at place r ≡ Ok x → r ≡ Ok x
unplaced place (Ok y) x is = is
unplaced place (Err refusal) x is = cc is

module _ {F : Type 0} (filters : Filters F) (source : List ℕ) (outside : ℕ) where
  abbrev old : Lang F (TagShape F) PlanShape BlockShape
  old = languages.tags_and_blocks filters

  abbrev new : Lang F (StdTagShape F) StdPlanShape StdBlockShape
  new = tags_and_blocks filters

  -- what the plug-ins of each language mean
  abbrev old_tag : Tags → Filters F → Tokens → Result (TagShape F) Refusal
  old_tag = library_tag.tag_given

  abbrev new_tag : StdTags → Filters F → Tokens → Result (StdTagShape F) Refusal
  new_tag = standard_tag.tag_given

  abbrev old_block : Blocks → Block F PlanShape BlockShape
  old_block = library.whole_block

  abbrev new_block : StdBlocks → Block F StdPlanShape StdBlockShape
  new_block = standard.whole_block

  -- a block ends
  ends : (o : Opened F) (os : List (Opened F)) (ns : List (NodeShape F (TagShape F) BlockShape)) (t : token.Tag)
      → Follows (ok_then (closed source t (old_open o) ns) (λ after. Ok (among (map old_open os) after)))
      (ok_then (closed source t (new_open o) (map node_image ns)) (λ after. Ok (among (map new_open os) after)))
  ends (opened p is_closed place before ps) os ns t s is =
      let last = block_with (node_of p) (ps ++ ns ∷ []) in
      let whole =
      made_from (closed source t (old_open (opened p is_closed place before ps)) ns)
      (λ after. Ok (among (map old_open os) after)) s is in
      let left =
      made_from (expect_nothing (handed source t)) (λ u. finished (old_open (opened p is_closed place before ps))
      (parts (length ps + 1)) (ps ++ ns ∷ [])) whole.0 whole.1 in
      let nodes = same_value (before ++ last ∷ []) whole.0 left.2 in
      let of_parts : List (List (NodeShape F (StdTagShape F) StdBlockShape))
      → Result (State F (StdTagShape F) StdPlanShape StdBlockShape) Refusal
      = λ qs. Ok (among (map new_open os) (map node_image before ++ block_with (block_image (node_of p)) qs ∷ [])) in (
        among_nodes os whole.0,
        sym (same_value (among (map old_open os) whole.0) s whole.2),
        ap (λ r. ok_then (ok_then r (λ u. finished (new_open (opened p is_closed place before ps))
            (parts (length (map (map node_image) ps) + 1)) (map (map node_image) ps ++ map node_image ns ∷ [])))
            (λ after. Ok (among (map new_open os) after))) left.1
            ∙ ap of_parts (parts_added ps ns)
            ∙ ap (λ n. Ok (among (map new_open os) (map node_image before ++ n ∷ []))) (sym (block_kept (node_of p) (ps ++ ns ∷ [])))
            ∙ ap (λ l. Ok (among (map new_open os) l)) (added before last)
            ∙ ap (λ l. Ok (among (map new_open os) (map node_image l))) nodes,
      )

  -- a part of a block ends
  parts_on : (o : Opened F) (os : List (Opened F)) (ns : List (NodeShape F (TagShape F) BlockShape)) (t : token.Tag)
      → list_any (bytes_eq t.0) (old_open o).kind.means.dividers ≡ true
      → Follows (ok_then (parted source t (old_open o) ns) (λ divided. Ok (among (divided ∷ map old_open os) [])))
      (ok_then (parted source t (new_open o) (map node_image ns)) (λ divided. Ok (among (divided ∷ map new_open os) [])))
  parts_on (opened p is_closed place before ps) os ns t is_divider s is =
      let at = place_in source (name_place t) in
      let old_with : Blocks → PlanShape → Open F (TagShape F) PlanShape BlockShape
      = λ k q. record { kind = library.whole_block k; place = place; plan = q; before = before; parts = ps ++ ns ∷ [] } in
      let new_with : Blocks → StdPlanShape → List (List (NodeShape F (StdTagShape F) StdBlockShape))
      → Open F (StdTagShape F) StdPlanShape StdBlockShape
      = λ k q qs. record {
        kind = standard.whole_block (standard_block k);
        place = place;
        plan = q;
        before = map node_image before;
        parts = qs;
      } in
      let whole =
      made_from (parted source t (old_open (opened p is_closed place before ps)) ns)
      (λ divided. Ok (among (divided ∷ map old_open os) [])) s is in
      let made =
      made_from (placed_at at (library.divided (plan p is_closed) t.0 (handed source t)))
      (λ q. Ok (old_with (kind_of p) q)) whole.0 whole.1 in
      let law =
      divides p is_closed t.0 (handed source t) made.0 is_divider (unplaced at
      (library.divided (plan p is_closed) t.0 (handed source t)) made.0 made.1) in (
        among_nodes (opened law.0 law.1 place before (ps ++ ns ∷ []) ∷ os) [],
        sym (same_value (among (whole.0 ∷ map old_open os) []) s whole.2)
            ∙ ap (λ d. among (d ∷ map old_open os) []) (sym (same_value (old_with (kind_of p) made.0) whole.0 made.2)
            ∙ ap (old_with (kind_of p)) law.3 ∙ ap (λ k. old_with k (plan law.0 law.1)) (sym law.2)),
        ap (λ r. ok_then (ok_then (placed_at at r) (λ q. Ok (new_with (kind_of p) q (map (map node_image) ps ++ map node_image ns ∷ []))))
            (λ divided. Ok (among (divided ∷ map new_open os) []))) law.4
            ∙ ap (λ qs. Ok (among (new_with (kind_of p) (plan_image law.0 law.1) qs ∷ map new_open os) [])) (parts_added ps ns)
            ∙ ap (λ k. Ok (among (new_with k (plan_image law.0 law.1) (map (map node_image) (ps ++ ns ∷ [])) ∷ map new_open os) []))
            (sym law.2),
      )

  -- a tag of the library is one of the standard language
  reads_tag : (os : List (Opened F)) (ns : List (NodeShape F (TagShape F) BlockShape)) (t : token.Tag) (p : Tags)
      → get languages.the_tags t.0 ≡ Some p
      → Follows (outer_read old source outside t (map old_open os) ns)
      (outer_read new source outside t (map new_open os) (map node_image ns))
  reads_tag os ns t p has s is =
      let at = place_in source (name_place t) in
      let old_read = tag_outer old source outside t (map old_open os) ns (old_tag p) (ap (option_map old_tag) has) in
      let new_read =
      tag_outer new source outside t (map new_open os) (map node_image ns) (new_tag (tag.Library p))
      (ap (option_map new_tag) (tag_kept t.0 p (tag_named t.0 p has))) in
      let whole =
      made_from (tag_given source t filters (old_tag p)) (λ n. Ok (among (map old_open os) (ns ++ n ∷ []))) s (sym old_read ∙ is) in
      let made = made_from (placed_at at (old_tag p filters (handed source t))) (λ n. Ok (tag_node n)) whole.0 whole.1 in (
        among_nodes os (ns ++ tag_node made.0 ∷ []),
        sym (same_value (among (map old_open os) (ns ++ whole.0 ∷ [])) s whole.2)
            ∙ ap (λ n. among (map old_open os) (ns ++ n ∷ [])) (sym (same_value (tag_node made.0) whole.0 made.2)),
        new_read
            ∙ ap (λ r. ok_then (ok_then (placed_at at r) (λ n. Ok (tag_node n)))
            (λ n. Ok (among (map new_open os) (map node_image ns ++ n ∷ []))))
            (tag_given_kept p filters (handed source t) made.0 (unplaced at (old_tag p filters (handed source t)) made.0 made.1))
            ∙ ap (λ l. Ok (among (map new_open os) l)) (added ns (tag_node made.0)),
      )

  -- a block that has begun
  abbrev entry : Planned → List (Opened F) → List (NodeShape F (TagShape F) BlockShape) → Place → Reading F
  entry (if_plan cs) os ns place = among_nodes (opened (if_plan cs) false place ns [] ∷ os) []
  entry (for_plan name s) os ns place = among_nodes (opened (for_plan name s) false place ns [] ∷ os) []
  entry (raw_plan text) os ns place = inside_raw text false place ns [] os 0 []

  old_enters : (p : Planned) (os : List (Opened F)) (ns : List (NodeShape F (TagShape F) BlockShape)) (place : Place)
      → entered (library.escapes_of (kind_of p)) (old_open (opened p false place ns [])) (map old_open os) ≡ old_state (entry p os ns place)
  old_enters (if_plan cs) os ns place = refl
  old_enters (for_plan name s) os ns place = refl
  old_enters (raw_plan text) os ns place = refl

  new_enters : (p : Planned) (os : List (Opened F)) (ns : List (NodeShape F (TagShape F) BlockShape)) (place : Place)
      → entered (standard.escapes_of (standard_block (kind_of p))) (new_open (opened p false place ns [])) (map new_open os) ≡ new_state
      (entry p os ns place)
  new_enters (if_plan cs) os ns place = refl
  new_enters (for_plan name s) os ns place = refl
  new_enters (raw_plan text) os ns place = refl

  begins_block : (os : List (Opened F)) (ns : List (NodeShape F (TagShape F) BlockShape)) (t : token.Tag) (b : Blocks)
      → Follows (ok_then (begun source t filters (old_block b) ns) (λ o. Ok (entered (library.escapes_of b) o (map old_open os))))
      (ok_then (begun source t filters (new_block (standard_block b)) (map node_image ns))
      (λ o. Ok (entered (standard.escapes_of (standard_block b)) o (map new_open os))))
  begins_block os ns t b s is =
      let at = place_in source (name_place t) in
      let old_with : Blocks → PlanShape → Open F (TagShape F) PlanShape BlockShape
      = λ k q. record { kind = library.whole_block k; place = at; plan = q; before = ns; parts = [] } in
      let new_with : Blocks → StdPlanShape → Open F (StdTagShape F) StdPlanShape StdBlockShape
      = λ k q. record { kind = standard.whole_block (standard_block k); place = at; plan = q; before = map node_image ns; parts = [] } in
      let whole = made_from (begun source t filters (old_block b) ns) (λ o. Ok (entered (library.escapes_of b) o (map old_open os))) s is in
      let made = made_from (placed_at at (library.begun b (handed source t))) (λ q. Ok (old_with b q)) whole.0 whole.1 in
      let law = begins b (handed source t) made.0 (unplaced at (library.begun b (handed source t)) made.0 made.1) in (
        entry law.0 os ns at,
        sym (same_value (entered (library.escapes_of b) whole.0 (map old_open os)) s whole.2)
            ∙ ap (λ o. entered (library.escapes_of b) o (map old_open os))
            (sym (same_value (old_with b made.0) whole.0 made.2) ∙ ap (old_with b) law.2)
            ∙ ap (λ k. entered (library.escapes_of k) (old_with k (plan law.0 false)) (map old_open os)) (sym law.1)
            ∙ old_enters law.0 os ns at,
        ap (λ r. ok_then (ok_then (placed_at at r) (λ q. Ok (new_with b q)))
            (λ o. Ok (entered (standard.escapes_of (standard_block b)) o (map new_open os)))) law.3
            ∙ ap (λ k. Ok (entered (standard.escapes_of (standard_block k)) (new_with k (plan_image law.0 false)) (map new_open os)))
            (sym law.1)
            ∙ ap (λ (n : State F (StdTagShape F) StdPlanShape StdBlockShape). Ok n) (new_enters law.0 os ns at),
      )

  with_room : (room : Bool) (x : Result (State F (TagShape F) PlanShape BlockShape) Refusal)
      (y : Result (State F (StdTagShape F) StdPlanShape StdBlockShape) Refusal) (refusal : Refusal)
      → Follows x y → Follows (if room then x else Err refusal) (if room then y else Err refusal)
  with_room true x y refusal follows s is = follows s is
  with_room false x y refusal follows s is = cc is

  -- a block of the library is one of the standard language
  reads_block : (os : List (Opened F)) (ns : List (NodeShape F (TagShape F) BlockShape)) (t : token.Tag) (b : Blocks)
      → get languages.the_tags t.0 ≡ None → get languages.the_blocks t.0 ≡ Some b
      → Follows (outer_read old source outside t (map old_open os) ns)
      (outer_read new source outside t (map new_open os) (map node_image ns))
  reads_block os ns t b none has =
      let named = block_named t.0 b has in
      let x = ok_then (begun source t filters (old_block b) ns) (λ o. Ok (entered (library.escapes_of b) o (map old_open os))) in
      let y =
      ok_then (begun source t filters (new_block (standard_block b)) (map node_image ns))
      (λ o. Ok (entered (standard.escapes_of (standard_block b)) o (map new_open os))) in
      let refusal = refused_at source (codes "Nested too deep") (name_place t) in
      alike (outer_read old source outside t (map old_open os) ns) (if nat_lt (outside + length os) block_limit then x else Err refusal)
      (outer_read new source outside t (map new_open os) (map node_image ns))
      (if nat_lt (outside + length os) block_limit then y else Err refusal)
      (block_outer old source outside t (map old_open os) ns (old_block b) (ap (option_map old_tag) none) (ap (option_map old_block) has)
      ∙ ap (λ n. if nat_lt (outside + n) block_limit then x else Err refusal) (length-map os old_open))
      (block_outer new source outside t (map new_open os) (map node_image ns) (new_block (standard_block b))
      (ap (option_map new_tag) (tag_free t.0 b named)) (ap (option_map new_block) (own_block t.0 b named))
      ∙ ap (λ n. if nat_lt (outside + n) block_limit then y else Err refusal) (length-map os new_open))
      (with_room (nat_lt (outside + length os) block_limit) x y refusal (begins_block os ns t b))

  reads_named : (os : List (Opened F)) (ns : List (NodeShape F (TagShape F) BlockShape)) (t : token.Tag) (o : Option Tags)
      (q : Option Blocks) → get languages.the_tags t.0 ≡ o → get languages.the_blocks t.0 ≡ q
      → Follows (outer_read old source outside t (map old_open os) ns)
      (outer_read new source outside t (map new_open os) (map node_image ns))
  reads_named os ns t (Some p) q has other s is = reads_tag os ns t p has s is
  reads_named os ns t None (Some b) none has s is = reads_block os ns t b none has s is
  reads_named os ns t None None none no_block s is =
      let unknown =
      unknown_outer old source outside t (map old_open os) ns (ap (option_map old_tag) none) (ap (option_map old_block) no_block) in
      cc (sym unknown ∙ is)

  reads_outer : (os : List (Opened F)) (ns : List (NodeShape F (TagShape F) BlockShape)) (t : token.Tag)
      → Follows (outer_read old source outside t (map old_open os) ns)
      (outer_read new source outside t (map new_open os) (map node_image ns))
  reads_outer os ns t = reads_named os ns t (get languages.the_tags t.0) (get languages.the_blocks t.0) refl refl

  same_end : (o : Opened F) → (new_open o).kind.names.end_name ≡ (old_open o).kind.names.end_name
  same_end (opened (if_plan cs) is_closed place before ps) = refl
  same_end (opened (for_plan name s) is_closed place before ps) = refl
  same_end (opened (raw_plan text) is_closed place before ps) = refl

  same_dividers : (o : Opened F) → (new_open o).kind.means.dividers ≡ (old_open o).kind.means.dividers
  same_dividers (opened (if_plan cs) is_closed place before ps) = refl
  same_dividers (opened (for_plan name s) is_closed place before ps) = refl
  same_dividers (opened (raw_plan text) is_closed place before ps) = refl

  reads_in : (o : Opened F) (os : List (Opened F)) (ns : List (NodeShape F (TagShape F) BlockShape)) (t : token.Tag)
      (is_end is_divider : Bool)
      → bytes_eq t.0 (old_open o).kind.names.end_name ≡ is_end → list_any (bytes_eq t.0) (old_open o).kind.means.dividers ≡ is_divider
      → Follows (tag_read old source outside (map old_open (o ∷ os)) ns t)
      (tag_read new source outside (map new_open (o ∷ os)) (map node_image ns) t)
  reads_in o os ns t true is_divider ending dividing =
      alike (tag_read old source outside (map old_open (o ∷ os)) ns t)
      (ok_then (closed source t (old_open o) ns) (λ after. Ok (among (map old_open os) after)))
      (tag_read new source outside (map new_open (o ∷ os)) (map node_image ns) t)
      (ok_then (closed source t (new_open o) (map node_image ns)) (λ after. Ok (among (map new_open os) after)))
      (end_read old source outside t (old_open o) (map old_open os) ns ending)
      (end_read new source outside t (new_open o) (map new_open os) (map node_image ns) (ap (bytes_eq t.0) (same_end o) ∙ ending))
      (ends o os ns t)
  reads_in o os ns t false true ending dividing =
      alike (tag_read old source outside (map old_open (o ∷ os)) ns t)
      (ok_then (parted source t (old_open o) ns) (λ divided. Ok (among (divided ∷ map old_open os) [])))
      (tag_read new source outside (map new_open (o ∷ os)) (map node_image ns) t)
      (ok_then (parted source t (new_open o) (map node_image ns)) (λ divided. Ok (among (divided ∷ map new_open os) [])))
      (divider_read old source outside t (old_open o) (map old_open os) ns ending dividing)
      (divider_read new source outside t (new_open o) (map new_open os) (map node_image ns) (ap (bytes_eq t.0) (same_end o) ∙ ending)
      (ap (list_any (bytes_eq t.0)) (same_dividers o) ∙ dividing))
      (parts_on o os ns t dividing)
  reads_in o os ns t false false ending dividing =
      alike (tag_read old source outside (map old_open (o ∷ os)) ns t) (outer_read old source outside t (map old_open (o ∷ os)) ns)
      (tag_read new source outside (map new_open (o ∷ os)) (map node_image ns) t)
      (outer_read new source outside t (map new_open (o ∷ os)) (map node_image ns))
      (other_read old source outside t (old_open o) (map old_open os) ns ending dividing)
      (other_read new source outside t (new_open o) (map new_open os) (map node_image ns) (ap (bytes_eq t.0) (same_end o) ∙ ending)
      (ap (list_any (bytes_eq t.0)) (same_dividers o) ∙ dividing))
      (reads_outer (o ∷ os) ns t)

  reads_any : (os : List (Opened F)) (ns : List (NodeShape F (TagShape F) BlockShape)) (t : token.Tag)
      → Follows (tag_read old source outside (map old_open os) ns t) (tag_read new source outside (map new_open os) (map node_image ns) t)
  reads_any [] ns t = reads_outer [] ns t
  reads_any (o ∷ os) ns t =
      reads_in o os ns t (bytes_eq t.0 (old_open o).kind.names.end_name)
      (list_any (bytes_eq t.0) (old_open o).kind.means.dividers) refl refl

  reads_element : (os : List (Opened F)) (ns : List (NodeShape F (TagShape F) BlockShape)) (e : Element) (following : List ℕ)
      → Follows (element_read old source outside (map old_open os) ns e following)
      (element_read new source outside (map new_open os) (map node_image ns) e following)
  reads_element os ns (raw text) following s is = (
    among_nodes os (ns ++ text_node text ∷ []),
    sym (same_value (among (map old_open os) (ns ++ text_node text ∷ [])) s is),
    ap (λ l. Ok (among (map new_open os) l)) (added ns (text_node text)),
  )
  reads_element os ns (expression c text) following s is =
      let fine =
      made_from (checked source (chain_fault c)) (λ u. node_added (map old_open os) ns (expression_read filters source c)) s is in
      let whole = made_from (expression_read filters source c) (λ n. Ok (among (map old_open os) (ns ++ n ∷ []))) s fine.2 in
      let made = made_from (chain_read filters source c) (λ chain. Ok (chain_node chain)) whole.0 whole.1 in (
        among_nodes os (ns ++ chain_node made.0 ∷ []),
        sym (same_value (among (map old_open os) (ns ++ whole.0 ∷ [])) s whole.2)
            ∙ ap (λ n. among (map old_open os) (ns ++ n ∷ [])) (sym (same_value (chain_node made.0) whole.0 made.2)),
        ap (λ r. ok_then r (λ u. node_added (map new_open os) (map node_image ns) (expression_read filters source c))) fine.1
            ∙ ap (λ r. ok_then (ok_then r (λ chain. Ok (chain_node chain)))
            (λ n. Ok (among (map new_open os) (map node_image ns ++ n ∷ [])))) made.1
            ∙ ap (λ l. Ok (among (map new_open os) l)) (added ns (chain_node made.0)),
      )
  reads_element os ns (tag_element t text) following s is =
      let fine = made_from (checked source (tag_fault t)) (λ u. tag_read old source outside (map old_open os) ns t) s is in
      let follows = reads_any os ns t s fine.2 in (
        follows.0,
        follows.1,
        ap (λ r. ok_then r (λ u. tag_read new source outside (map new_open os) (map node_image ns) t)) fine.1
            ∙ follows.2,
      )
  reads_element os ns (invalid text) following s is = cc is

  reads_raw : (text : List ℕ) (is_closed : Bool) (place : Place) (before : List (NodeShape F (TagShape F) BlockShape))
      (ps : List (List (NodeShape F (TagShape F) BlockShape))) (os : List (Opened F)) (so_far content : List ℕ) (level : Option ℕ)
      → Follows (escape_read (old_open (opened (raw_plan text) is_closed place before ps)) (map old_open os) so_far content level)
      (escape_read (new_open (opened (raw_plan text) is_closed place before ps)) (map new_open os) so_far content level)
  reads_raw text is_closed place before ps os so_far content None s is =
      let last : NodeShape F (TagShape F) BlockShape = block_with (node_of (raw_plan so_far)) [] in (
        among_nodes os (before ++ last ∷ []),
        sym (same_value (among (map old_open os) (before ++ last ∷ [])) s is),
        ap (λ l. Ok (among (map new_open os) l)) (added before last),
      )
  reads_raw text is_closed place before ps os so_far content (Some level) s is = (
    inside_raw text is_closed place before ps os level (so_far ++ content),
    sym (same_value (inside (old_open (opened (raw_plan text) is_closed place before ps)) (map old_open os) level (so_far ++ content)) s
        is),
    refl,
  )

  -- one element more is read
  pub reads_step : (r : Reading F) (e : Element) (following : List ℕ)
      → Follows (step old source outside (old_state r) e following) (step new source outside (new_state r) e following)
  reads_step (among_nodes os ns) e following = reads_element os ns e following
  reads_step (inside_raw text is_closed place before ps os level so_far) e following =
      let kind = (old_open (opened (raw_plan text) is_closed place before ps)).kind in
      reads_raw text is_closed place before ps os so_far (text_of e) (level_after kind.names.end_name kind.names.start_name false level e)
