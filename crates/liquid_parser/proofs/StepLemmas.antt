-- The steps of the parser, over any block.
use Rattle.std.proofs.Common.{
  ◌≡◌,
  inl,
  inr,
  ℕ,
  ◌+◌,
  List,
  [],
  ◌∷◌,
  ◌++◌,
  length,
  map,
  Option,
  Some,
  None,
  option_map,
  Result,
  Ok,
  Err,
  refl,
  sym,
  ap,
  ◌∙◌,
  subst,
  Vec,
}
use Rattle.std.specs.Prelude.{IfSome}
use Rattle.std.specs.declared.alloc.Global.{Global}
use Rattle.std.proofs.lemmas.List.{length-map, length-append, map_push}
use Rattle.liquid_error.specs.declared.place.Place.{Place}
use Rattle.liquid_error.specs.meaning.Refusal.{Refusal, or_placed, ok_then}
use Rattle.liquid_grammar.specs.meaning.Tokens as token
use Rattle.liquid_plugins.specs.declared.tree.Node as code
use Rattle.liquid_plugins.specs.declared.tree.Node.TheVariants.{
  Text,
  Brief,
  Name,
  Chain,
  Tag,
  Block,
  rolls-Text,
  rolls-Brief,
  rolls-Name,
  rolls-Chain,
  rolls-Tag,
  rolls-Block,
}
use Rattle.liquid_plugins.specs.declared.expression.FilterChain.{FilterChain}
use Rattle.liquid_plugins.specs.meaning.ExpressionOf.{chain_of}
use Rattle.std.specs.Prelude.{string_bytes, String}
use Rattle.liquid_plugins.specs.meaning.Nodes.{NodeShape, text_node, chain_node, tag_node, block_node, nodes_from, parts_from}
use Rattle.liquid_plugins.specs.ArrayString.{ArrayString}
use Rattle.liquid_plugins.specs.meaning.NodesOf.{name_chain, IsText, node_step, node_of, shapes_of}
use Rattle.liquid_parser.specs.meaning.Handed.{handed, place_in, expect_nothing}
use Rattle.liquid_parser.specs.meaning.Lang as lang
use Rattle.liquid_parser.specs.meaning.Lang.{Filters, parts}
use Rattle.liquid_parser.specs.meaning.Reading.{Open, among, begun, block_with, closed, finished, name_place, node_added, placed_at}

pub placed_ok : {A B : Type 0} (place : Place) (m : Result A Refusal) (k : A → Result B Refusal) (x : A) → m ≡ Ok x
    → ok_then (placed_at place m) k ≡ k x
placed_ok place m k x h = ap (λ n. ok_then (placed_at place n) k) h

pub placed_err : {A B : Type 0} (o o' : Option Refusal) (place p : Place) (m : Result A Refusal) (k : A → Result B Refusal)
    → IfSome o (λ r. m ≡ Err r) → o' ≡ option_map (or_placed p) o → p ≡ place
    → IfSome o' (λ r. ok_then (placed_at place m) k ≡ Err r)
placed_err None o' place p m k h e same = subst (λ q. IfSome q (λ r. ok_then (placed_at place m) k ≡ Err r)) (sym e) tt
placed_err (Some r) o' place p m k h e same =
    subst (λ q. IfSome q (λ r. ok_then (placed_at place m) k ≡ Err r)) (sym e)
    (ap (λ n. ok_then (placed_at place n) k) h ∙ ap (λ q. Err (or_placed q r)) (sym same))

pub then_refused : {A B : Type 0} (o : Option Refusal) (m : Result A Refusal) (k : A → Result B Refusal) → IfSome o (λ r. m ≡ Err r)
    → IfSome o (λ r. ok_then m k ≡ Err r)
then_refused None m k h = tt
then_refused (Some r) m k h = ap (λ n. ok_then n k) h

pub added_err : {F T P B : Type 0} (blocks : List (Open F T P B)) (nodes : List (NodeShape F T B)) (o : Option Refusal)
    (m : Result (NodeShape F T B) Refusal) → IfSome o (λ r. m ≡ Err r) → IfSome o (λ r. node_added blocks nodes m ≡ Err r)
added_err blocks nodes o m h = then_refused o m (λ node. Ok (among blocks (nodes ++ node ∷ []))) h

module _ {F T P B : Type 0} (source : List ℕ) (t : token.Tag) where
  pub opened_ok : (filters : Filters F) (kind : lang.Block F P B) (nodes : List (NodeShape F T B)) (plan : P) (at : Place)
      (ps : List (List (NodeShape F T B)))
      → kind.means.begin filters (handed source t) ≡ Ok plan → at ≡ place_in source (name_place t) → ps ≡ []
      → begun source t filters kind nodes ≡ Ok (record { kind = kind; place = at; plan = plan; before = nodes; parts = ps })
  opened_ok filters kind nodes plan at ps h f e =
      placed_ok (place_in source (name_place t)) _ _ plan h
      ∙ (ap (λ q. Ok (record { kind = kind; place = q; plan = plan; before = nodes; parts = [] })) (sym f)
      ∙ ap (λ q. Ok (record { kind = kind; place = at; plan = plan; before = nodes; parts = q })) (sym e))

  abbrev ending : (b : Open F T P B) (nodes : List (NodeShape F T B)) → Result (List (NodeShape F T B)) Refusal
  ending b nodes = finished b (parts (length b.parts + 1)) (b.parts ++ nodes ∷ [])

  pub closed_ok : (b : Open F T P B) (nodes after : List (NodeShape F T B)) (n : ℕ) (made : B)
      → expect_nothing (handed source t) ≡ Ok tt → b.kind.means.finish b.plan (parts n) ≡ Ok made → n ≡ length b.parts + 1
      → after ≡ b.before ++ block_with made (b.parts ++ nodes ∷ []) ∷ []
      → closed source t b nodes ≡ Ok after
  closed_ok b nodes after n made none h count e =
      ap (λ x. ok_then x (λ _. ending b nodes)) none
      ∙ (placed_ok b.place _ (λ made. Ok (b.before ++ block_with made (b.parts ++ nodes ∷ []) ∷ [])) made
      (subst (λ m. b.kind.means.finish b.plan (parts m) ≡ Ok made) count h)
      ∙ ap (λ q. Ok q) (sym e))

  pub closed_err : (b : Open F T P B) (nodes : List (NodeShape F T B)) (n : ℕ) (o o' : Option Refusal) (p : Place)
      → expect_nothing (handed source t) ≡ Ok tt → n ≡ length b.parts + 1 → IfSome o (λ r. b.kind.means.finish b.plan (parts n) ≡ Err r)
      → o' ≡ option_map (or_placed p) o → p ≡ b.place
      → IfSome o' (λ r. closed source t b nodes ≡ Err r)
  closed_err b nodes n o o' p none count h e same =
      let go =
      placed_err o o' b.place p (b.kind.means.finish b.plan (parts (length b.parts + 1)))
      (λ made. Ok (b.before ++ block_with made (b.parts ++ nodes ∷ []) ∷ []))
      (subst (λ m. IfSome o (λ r. b.kind.means.finish b.plan (parts m) ≡ Err r)) count h) e same in
      subst (λ x. IfSome o' (λ r. ok_then x (λ _. ending b nodes) ≡ Err r)) (sym none) go

  pub closed_token : (b : Open F T P B) (nodes : List (NodeShape F T B)) (o : Option Refusal)
      → IfSome o (λ r. expect_nothing (handed source t) ≡ Err r) → IfSome o (λ r. closed source t b nodes ≡ Err r)
  closed_token b nodes None h = tt
  closed_token b nodes (Some r) h = ap (λ x. ok_then x (λ _. ending b nodes)) h

pub map_twice : {A C D : Type 0} (h : A → C) (k : C → D) (m : A → D) → ((a : A) → k (h a) ≡ m a) → (xs : List A)
    → map k (map h xs) ≡ map m xs
map_twice h k m same [] = refl
map_twice h k m same (x ∷ xs) = ap (λ y. y ∷ map k (map h xs)) (same x) ∙ ap (λ ys. m x ∷ ys) (map_twice h k m same xs)

module _ {X N K F T B : Type 0} (filter : X → F) (tag : N → T) (block : K → B) where
  text_shape : (s : String Global) → node_of filter tag block (Text s) ≡ text_node (string_bytes s)
  unfolding node_of
  text_shape s =
      ap (node_of filter tag block) (sym (rolls-Text s)) ∙ code.fold-roll-Node X N K (NodeShape F T B) (node_step filter tag block) _

  brief_shape : (s : ArrayString) → node_of filter tag block (Brief s) ≡ text_node s.bytes
  unfolding node_of
  brief_shape s =
      ap (node_of filter tag block) (sym (rolls-Brief s)) ∙ code.fold-roll-Node X N K (NodeShape F T B) (node_step filter tag block) _

  -- either form of a text has its shape
  pub is_text : (n : code.Node X N K) (bytes : List ℕ) → IsText n bytes → node_of filter tag block n ≡ text_node bytes
  is_text n bytes (inl made) = ap (node_of filter tag block) made.1 ∙ (text_shape made.0 ∙ ap text_node made.2)
  is_text n bytes (inr made) = ap (node_of filter tag block) made.1 ∙ (brief_shape made.0 ∙ ap text_node made.2)

  pub name_shape : (left : ℕ) (s : ArrayString) → node_of filter tag block (Name left s) ≡ chain_node (name_chain s.bytes)
  unfolding node_of
  name_shape left s =
      ap (node_of filter tag block) (sym (rolls-Name left s)) ∙ code.fold-roll-Node X N K (NodeShape F T B) (node_step filter tag block) _

  pub chain_shape : (left : ℕ) (c : FilterChain X) → node_of filter tag block (Chain left c) ≡ chain_node (chain_of filter c)
  unfolding node_of
  chain_shape left c =
      ap (node_of filter tag block) (sym (rolls-Chain left c)) ∙ code.fold-roll-Node X N K (NodeShape F T B) (node_step filter tag block) _

  pub tag_shape : (left : ℕ) (made : N) → node_of filter tag block (Tag left made) ≡ tag_node (tag made)
  unfolding node_of
  tag_shape left made =
      ap (node_of filter tag block) (sym (rolls-Tag left made)) ∙ code.fold-roll-Node X N K (NodeShape F T B) (node_step filter tag block) _

  pub block_shape : (left : ℕ) (made : K) (ps : Vec (Vec (code.Node X N K) Global) Global)
      → node_of filter tag block (Block left made ps) ≡ block_with (block made) (map (λ v. shapes_of filter tag block v.items) ps.items)
  unfolding node_of
  block_shape left made ps =
      ap (node_of filter tag block) (sym (rolls-Block left made ps))
      ∙ (code.fold-roll-Node X N K (NodeShape F T B) (node_step filter tag block) _
      ∙ ap (λ q. block_node (block made) (parts_from q)) (map_twice _ (λ ns. nodes_from ns.items)
      (λ v. nodes_from (shapes_of filter tag block v.items)) (λ v. refl) ps.items
      ∙ sym (map_twice (λ v. shapes_of filter tag block v.items) nodes_from (λ v. nodes_from (shapes_of filter tag block v.items))
      (λ v. refl) ps.items)))

  pub bare_block_shape : (left : ℕ) (made : K) (ps : Vec (Vec (code.Node X N K) Global) Global) → ps.items ≡ []
      → node_of filter tag block (Block left made ps) ≡ block_with (block made) []
  bare_block_shape left made ps none =
      block_shape left made ps ∙ ap (λ xs. block_with (block made) (map (λ v. shapes_of filter tag block v.items) xs)) none

-- one more part, counted
pub count_parts : {A C : Type 0} (f : A → C) (old : List A) (a : A) {new : List A} → new ≡ old ++ a ∷ []
    → length new ≡ length (map f old) + 1
count_parts f old a e = ap length e ∙ (length-append old (a ∷ []) ∙ ap (λ n. n + 1) (sym (length-map old f)))

-- one more node after others
pub last_node : {A C : Type 0} (f : A → C) (before : List A) (n : A) (shape : C) {new : List A} → new ≡ before ++ n ∷ [] → f n ≡ shape
    → map f new ≡ map f before ++ shape ∷ []
last_node f before n shape e is = ap (map f) e ∙ (map_push f before n ∙ ap (λ c. map f before ++ c ∷ []) is)
