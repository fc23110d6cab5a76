-- An element gives one node.
use Rattle.std.proofs.Common.{
  ◌≡◌,
  ℕ,
  Bool,
  true,
  false,
  List,
  [],
  ◌∷◌,
  ◌++◌,
  length,
  Option,
  Some,
  None,
  option_map,
  Result,
  Ok,
  Err,
  refl,
  sym,
  ap,
  ◌∙◌,
}
use Rattle.std.specs.Prelude.{⊤, ◌+◌, unwrap_or, if◌then◌else◌, nat_lt, bytes_eq, codes}
use Rattle.std.specs.List.{list_any}
use Rattle.std.specs.Option.{option_or}
use Rattle.liquid_error.specs.meaning.Refusal.{Refusal, ok_then}
use Rattle.liquid_grammar.specs.meaning.Cover.{Element, raw, tag_element, expression, invalid, text_of, joined}
use Rattle.liquid_grammar.specs.meaning.Faults.{tag_fault, chain_fault}
use Rattle.liquid_grammar.specs.meaning.Tokens as token
use Rattle.liquid_plugins.specs.meaning.Nodes.{NodeShape}
use Rattle.liquid_parser.specs.meaning.ElementReading.{read_closed, tag_node_read}
use Rattle.liquid_parser.specs.meaning.Handed.{handed, expect_nothing, place_in}
use Rattle.liquid_parser.specs.meaning.Lang.{Lang, Body, parts, escaped}
use Rattle.liquid_parser.specs.meaning.Reading.{
  Open,
  State,
  among,
  inside,
  step,
  checked,
  expression_read,
  node_added,
  tag_given,
  begun,
  block_begun,
  parted,
  closed,
  finished,
  escape_read,
  level_after,
  as_end,
  as_divider,
  as_tag,
  as_block,
  outer_read,
  tag_read,
  unknown_tag,
  entered,
  block_with,
  placed_at,
  name_place,
  refused_at,
  block_limit,
}

abbrev pub IsOne : {N : Type 0} → List N → Type 0
IsOne {N} ns = (n : N) × (ns ≡ n ∷ [])

one_following : {N : Type 0} (before : List N) (n : N) → before ≡ [] → IsOne (before ++ n ∷ [])
one_following before n e = (n, ap (λ ns. ns ++ n ∷ []) e)

module _ {F T P B : Type 0} where
  -- the outermost of these blocks has no nodes before it
  abbrev Alone : Open F T P B → List (Open F T P B) → Type 0
  Alone b [] = b.before ≡ []
  Alone b (c ∷ blocks) = Alone c blocks

  -- the outermost list has one node, that of the outermost block if one is open
  abbrev OneIn : State F T P B → Type 0
  OneIn (among [] nodes) = IsOne nodes
  OneIn (among (b ∷ blocks) nodes) = Alone b blocks
  OneIn (inside b blocks level so_far) = Alone b blocks

  abbrev OneOf : Result (State F T P B) Refusal → Type 0
  OneOf (Ok st) = OneIn st
  OneOf (Err r) = ⊤

  abbrev OneOr : Option (Result (State F T P B) Refusal) → Type 0
  OneOr None = ⊤
  OneOr (Some r) = OneOf r

  one_then : {A : Type 0} (m : Result A Refusal) (k : A → Result (State F T P B) Refusal) → ((x : A) → OneOf (k x)) → OneOf (ok_then m k)
  one_then (Ok x) k h = h x
  one_then (Err r) k h = tt

  one_if : (c : Bool) (r : Result (State F T P B) Refusal) → OneOf r → OneOr (if c then Some r else None)
  one_if true r h = h
  one_if false r h = tt

  one_or : (a b : Option (Result (State F T P B) Refusal)) → OneOr a → OneOr b → OneOr (option_or a b)
  one_or None b h k = k
  one_or (Some r) b h k = h

  one_map : {A : Type 0} (f : A → Result (State F T P B) Refusal) (o : Option A) → ((x : A) → OneOf (f x)) → OneOr (option_map f o)
  one_map f None h = tt
  one_map f (Some x) h = h x

  one_unwrap : (o : Option (Result (State F T P B) Refusal)) (other : Result (State F T P B) Refusal) → OneOr o → OneOf other
      → OneOf (unwrap_or o other)
  one_unwrap None other h k = k
  one_unwrap (Some x) other h k = h

  one_room : (c : Bool) (r : Result (State F T P B) Refusal) (e : Refusal) → OneOf r → OneOf (if c then r else Err e)
  one_room true r e h = h
  one_room false r e h = tt

  one_closed : (b : Open F T P B) (blocks : List (Open F T P B)) (n : NodeShape F T B) → Alone b blocks
      → OneIn (among blocks (b.before ++ n ∷ []))
  one_closed b [] n h = one_following b.before n h
  one_closed b (c ∷ blocks) n h = h

  one_after : {A C : Type 0} (m : Result A Refusal) (f : A → Result C Refusal) (k : C → Result (State F T P B) Refusal)
      → ((x : A) → OneOf (ok_then (f x) k)) → OneOf (ok_then (ok_then m f) k)
  one_after (Ok x) f k h = h x
  one_after (Err r) f k h = tt

  one_finished : (b : Open F T P B) (blocks : List (Open F T P B)) (body : Body) (of : List (List (NodeShape F T B))) → Alone b blocks
      → OneOf (ok_then (finished b body of) (λ ns. Ok (among blocks ns)))
  one_finished b blocks body of h =
      one_after (placed_at b.place (b.kind.means.finish b.plan body)) (λ made. Ok (b.before ++ block_with made of ∷ []))
      (λ ns. Ok (among blocks ns)) (λ made. one_closed b blocks (block_with made of) h)

  one_entered : (escapes : Bool) (b : Open F T P B) (blocks : List (Open F T P B)) → Alone b blocks → OneIn (entered escapes b blocks)
  one_entered true b blocks h = h
  one_entered false b blocks h = h

module _ {F T P B : Type 0} (l : Lang F T P B) (source : List ℕ) (outside : ℕ) where
  one_block : (blocks : List (Open F T P B)) (nodes : List (NodeShape F T B)) (t : token.Tag)
      → ((b : Open F T P B) → b.before ≡ nodes → Alone b blocks) → OneOr (as_block l source outside blocks nodes t)
  one_block blocks nodes t h =
      one_map (λ kind. block_begun l source outside t kind blocks nodes) (l.blocks.get t.0)
      (λ kind.
      one_room (nat_lt (outside + length blocks) block_limit)
      (ok_then (begun source t l.filters kind nodes) (λ b. Ok (entered kind.means.escapes b blocks)))
      (refused_at source (codes "Nested too deep") (name_place t))
      (one_after (placed_at (place_in source (name_place t)) (kind.means.begin l.filters (handed source t)))
      (λ plan. Ok (record { kind = kind; place = place_in source (name_place t); plan = plan; before = nodes; parts = [] }))
      (λ b. Ok (entered kind.means.escapes b blocks))
      (λ plan. one_entered kind.means.escapes (record {
        kind = kind;
        place = place_in source (name_place t);
        plan = plan;
        before = nodes;
        parts = [];
      }) blocks
      (h (record { kind = kind; place = place_in source (name_place t); plan = plan; before = nodes; parts = [] }) refl))))

  one_made : (blocks : List (Open F T P B)) (nodes : List (NodeShape F T B)) (t : token.Tag)
      → ((n : NodeShape F T B) → OneIn (among blocks (nodes ++ n ∷ []))) → OneOr (as_tag l source outside blocks nodes t)
  one_made blocks nodes t h =
      one_map (λ make. node_added blocks nodes (tag_given source t l.filters make)) (l.tags.get t.0)
      (λ make. one_then (tag_given source t l.filters make) (λ n. Ok (among blocks (nodes ++ n ∷ []))) h)

  one_divided : (b : Open F T P B) (plan : P) (ps : List (List (NodeShape F T B))) (blocks : List (Open F T P B)) → Alone b blocks
      → Alone (record b { plan = plan; parts = ps }) blocks
  one_divided b plan ps [] h = h
  one_divided b plan ps (c ∷ blocks) h = h

  one_outer : (blocks : List (Open F T P B)) (nodes : List (NodeShape F T B)) (t : token.Tag)
      → ((n : NodeShape F T B) → OneIn (among blocks (nodes ++ n ∷ []))) → ((b : Open F T P B) → b.before ≡ nodes → Alone b blocks)
      → OneOf (outer_read l source outside t blocks nodes)
  one_outer blocks nodes t h k =
      one_unwrap (option_or (as_tag l source outside blocks nodes t) (as_block l source outside blocks nodes t))
      (Err (unknown_tag l source t))
      (one_or (as_tag l source outside blocks nodes t) (as_block l source outside blocks nodes t) (one_made blocks nodes t h)
      (one_block blocks nodes t k)) tt

  one_tag : (b : Open F T P B) (blocks : List (Open F T P B)) (nodes : List (NodeShape F T B)) (t : token.Tag) → Alone b blocks
      → OneOf (tag_read l source outside (b ∷ blocks) nodes t)
  one_tag b blocks nodes t h =
      one_unwrap (option_or (as_end source t (b ∷ blocks) nodes) (as_divider source t (b ∷ blocks) nodes))
      (outer_read l source outside t (b ∷ blocks) nodes)
      (one_or (as_end source t (b ∷ blocks) nodes) (as_divider source t (b ∷ blocks) nodes)
      (one_if (bytes_eq t.0 b.kind.names.end_name) (ok_then (closed source t b nodes) (λ after. Ok (among blocks after)))
      (one_after (expect_nothing (handed source t)) (λ _. finished b (parts (length b.parts + 1)) (b.parts ++ nodes ∷ []))
      (λ after. Ok (among blocks after))
      (λ u. one_finished b blocks (parts (length b.parts + 1)) (b.parts ++ nodes ∷ []) h)))
      (one_if (list_any (bytes_eq t.0) b.kind.means.dividers) (ok_then (parted source t b nodes)
      (λ divided. Ok (among (divided ∷ blocks) [])))
      (one_after (placed_at (place_in source (name_place t)) (b.kind.means.divide b.plan t.0 (handed source t)))
      (λ plan. Ok (record b { plan = plan; parts = b.parts ++ nodes ∷ [] })) (λ divided. Ok (among (divided ∷ blocks) []))
      (λ plan. one_divided b plan (b.parts ++ nodes ∷ []) blocks h))))
      (one_outer (b ∷ blocks) nodes t (λ n. h) (λ c e. h))

  one_first_tag : (t : token.Tag) → OneOf (tag_read l source outside [] [] t)
  one_first_tag t = one_outer [] [] t (λ n. (n, refl)) (λ c e. e)

  one_step : (b : Open F T P B) (blocks : List (Open F T P B)) (nodes : List (NodeShape F T B)) (e : Element) (following : List ℕ)
      → Alone b blocks → OneOf (step l source outside (among (b ∷ blocks) nodes) e following)
  one_step b blocks nodes (raw text) following h = h
  one_step b blocks nodes (expression c text) following h =
      one_then (checked source (chain_fault c)) (λ _. node_added (b ∷ blocks) nodes (expression_read l.filters source c))
      (λ u. one_then (expression_read l.filters source c) (λ n. Ok (among (b ∷ blocks) (nodes ++ n ∷ []))) (λ n. h))
  one_step b blocks nodes (tag_element t text) following h =
      one_then (checked source (tag_fault t)) (λ _. tag_read l source outside (b ∷ blocks) nodes t) (λ u. one_tag b blocks nodes t h)
  one_step b blocks nodes (invalid text) following h = tt

  one_escaped : (b : Open F T P B) (blocks : List (Open F T P B)) (so_far content : List ℕ) (o : Option ℕ) → Alone b blocks
      → OneOf (escape_read b blocks so_far content o)
  one_escaped b blocks so_far content None h = one_finished b blocks (escaped so_far) [] h
  one_escaped b blocks so_far content (Some level) h = h

  abbrev pub AllOne : Result (List (NodeShape F T B) × List Element) Refusal → Type 0
  AllOne (Ok p) = IsOne p.0
  AllOne (Err r) = ⊤

  then_one : (r : Result (State F T P B) Refusal) (es : List Element)
      → ((n : State F T P B) → OneIn n → AllOne (read_closed l source outside n es)) → OneOf r
      → AllOne (ok_then r (λ n. read_closed l source outside n es))
  then_one (Ok n) es ih h = ih n h
  then_one (Err r) es ih h = tt

  closed_one : (es : List Element) (st : State F T P B) → OneIn st → AllOne (read_closed l source outside st es)
  closed_one es (among [] nodes) h = h
  closed_one [] (among (b ∷ blocks) nodes) h = tt
  closed_one (e ∷ es) (among (b ∷ blocks) nodes) h =
      then_one (step l source outside (among (b ∷ blocks) nodes) e (joined es)) es (closed_one es) (one_step b blocks nodes e (joined es) h)
  closed_one [] (inside b blocks level so_far) h = tt
  closed_one (e ∷ es) (inside b blocks level so_far) h =
      then_one (step l source outside (inside b blocks level so_far) e (joined es)) es (closed_one es)
      (one_escaped b blocks so_far (text_of e) (level_after b.kind.names.end_name b.kind.names.start_name b.kind.means.nests level e) h)

module _ {F T P B : Type 0} (l : Lang F T P B) (source : List ℕ) (outside : ℕ) where
  -- a tag gives one node, whatever text it is in
  pub tag_one : (own : List ℕ) (t : token.Tag) (es : List Element) → AllOne l source outside (tag_node_read l source outside own t es)
  tag_one own t es =
      then_one l source outside (tag_read l own outside [] [] t) es (closed_one l source outside es) (one_first_tag l own outside t)

-- the last of one node
no_more : {N : Type 0} (zs : List N) (z : N) → zs ++ z ∷ [] ≡ [] → ⊥
no_more [] z e = cc
no_more (y ∷ zs) z e = cc

tail_of : {N : Type 0} → List N → List N
tail_of [] = []
tail_of (z ∷ zs) = zs

last_one : {N : Type 0} (before : List N) (x n : N) → before ++ x ∷ [] ≡ n ∷ [] → before ++ x ∷ [] ≡ x ∷ []
unfolding tail_of
last_one [] x n e = refl
last_one (y ∷ before) x n e = absurd (no_more before x (ap tail_of e))

pub one_popped : {N : Type 0} (ns before : List N) (x : N) → ns ≡ before ++ x ∷ [] → IsOne ns → ns ≡ x ∷ []
one_popped ns before x is one = is ∙ last_one before x one.0 (sym is ∙ one.1)

pub not_empty : {N : Type 0} (ns : List N) → ns ≡ [] → IsOne ns → ⊥
not_empty ns none one = let e = sym none ∙ one.1 in cc
