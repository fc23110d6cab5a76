-- What a text is read as: the result is a function of the finite list of its elements.
use Rattle.std.specs.Prelude.{
  ◌≡◌,
  ℕ,
  zero,
  suc,
  ◌+◌,
  Bool,
  true,
  false,
  ◌&&◌,
  if◌then◌else◌,
  nat_lt,
  bytes_eq,
  List,
  [],
  ◌∷◌,
  ◌++◌,
  map,
  length,
  Option,
  Some,
  None,
  option_map,
  unwrap_or,
  Result,
  Ok,
  Err,
  IfSome,
  codes,
}
use Rattle.std.specs.Option.{option_or, option_map_or}
use Rattle.std.specs.List.{list_any}
use Rattle.liquid_error.specs.declared.place.Place.{Place}
use Rattle.liquid_error.specs.declared.error.Error.{Error}
use Rattle.liquid_error.specs.meaning.Told.{told}
use Rattle.liquid_error.specs.meaning.Refusal.{Refusal, located, or_placed, with_context, with_trace, ok_then}
use Rattle.liquid_grammar.specs.meaning.Bytes.{open_brace}
use Rattle.liquid_grammar.specs.meaning.Tokens as token
use Rattle.liquid_grammar.specs.meaning.Faults.{
  Fault,
  FaultKind,
  integer_out_of_range,
  decimal_not_supported,
  nested_too_deep,
  chain_fault,
  tag_fault,
}
use Rattle.liquid_grammar.specs.meaning.Cover.{Element, raw, tag_element, expression, invalid, text_of, joined, Cover}
use Rattle.liquid_plugins.specs.meaning.Chain.{ChainShape}
use Rattle.liquid_plugins.specs.meaning.ArgumentsOf.{Arguments}
use Rattle.liquid_plugins.specs.meaning.Nodes.{NodeShape, text_node, chain_node, tag_node, block_node, nodes_from, parts_from}
use Rattle.liquid_parser.specs.meaning.Handed.{Tokens, expression_meant, arguments_meant, handed, expect_nothing, place_in, slice_between}
use Rattle.liquid_parser.specs.meaning.Lang.{Filters, Lang, Block, Body, parts, escaped, listed}

-- the greatest number of blocks that may be open at once
abbrev pub block_limit : ℕ
block_limit = 100

abbrev pub fault_message : FaultKind → List ℕ
fault_message integer_out_of_range = codes "Integer out of range"
fault_message decimal_not_supported = codes "Decimal not supported"
fault_message nested_too_deep = codes "Nested too deep"

-- a plug-in's own refusal: its place is its own, otherwise this one
abbrev pub placed_at : {A : Type 0} → Place → Result A Refusal → Result A Refusal
placed_at place (Ok x) = Ok x
placed_at place (Err r) = Err (or_placed place r)

-- the same for a filter, with its text
abbrev pub refusal_of_filter : Place → List ℕ → Refusal → Refusal
refusal_of_filter place source r = with_context (codes "filter") source (with_trace (codes "Filter parsing error") (or_placed place r))

abbrev pub filter_refused : {A : Type 0} → Place → List ℕ → Result A Refusal → Result A Refusal
filter_refused place source (Ok x) = Ok x
filter_refused place source (Err r) = Err (refusal_of_filter place source r)

abbrev pub is_empty : {A : Type 0} → List A → Bool
is_empty [] = true
is_empty (x ∷ xs) = false

-- the place of a tag's name
abbrev pub name_place : token.Tag → List ℕ
name_place t = t.0 ++ t.1.place

-- a refusal about a place of the source
abbrev pub refused_at : List ℕ → List ℕ → List ℕ → Refusal
refused_at source message place = located message (place_in source place)

-- the check of literals and brackets, from left to right
abbrev pub checked : List ℕ → Option Fault → Result (Unit {0}) Refusal
checked source None = Ok tt
checked source (Some fault) = Err (refused_at source (fault_message fault.0) fault.1)

module _ {F : Type 0} (filters : Filters F) (source : List ℕ) where
  abbrev pub unknown_filter : token.Filter → Refusal
  unknown_filter f =
      with_context (codes "available filters") (listed filters.names)
      (with_context (codes "requested filter") f.what.0 (refused_at source (codes "Unknown filter") f.place))

  -- the filter that the language has by this name, made from its arguments
  abbrev pub filter_or : Option (Arguments → Result F Refusal) → token.Filter → Result F Refusal
  filter_or None f = Err (unknown_filter f)
  filter_or (Some make) f = filter_refused (place_in source f.place) (slice_between f.place f.following) (make (arguments_meant f.what.1))

  -- a filter of a chain, which the language has by its name
  abbrev pub filter_read : token.Filter → Result F Refusal
  filter_read f = filter_or (filters.get f.what.0) f

  -- the filters of a chain, from left to right
  abbrev pub filters_read : List token.Filter → Result (List F) Refusal
  filters_read [] = Ok []
  filters_read (f ∷ fs) = ok_then (filter_read f) (λ x. ok_then (filters_read fs) (λ xs. Ok (x ∷ xs)))

  abbrev pub chain_read : token.Chain → Result (ChainShape F) Refusal
  chain_read c = ok_then (filters_read c.what.1) (λ xs. Ok (record { entry = expression_meant c.what.0; filters = xs }))

-- in an escaped body a tag of the end name without tokens is an end, one of the start name is a start if these nest,
-- and everything else is content
abbrev pub is_end : List ℕ → Element → Bool
is_end end_name (tag_element t _) = bytes_eq t.0 end_name && is_empty t.1.what
is_end end_name _ = false

abbrev pub is_start : List ℕ → Bool → Element → Bool
is_start start_name nests (tag_element t _) = nests && bytes_eq t.0 start_name
is_start start_name nests _ = false

-- how many starts are without their ends after an element that is an end, or otherwise a start; none at the end of the
-- body
abbrev pub level_by : Bool → Bool → ℕ → Option ℕ
level_by true start zero = None
level_by true start (suc level) = Some level
level_by false true level = Some (suc level)
level_by false false level = Some level

abbrev pub level_after : (end_name start_name : List ℕ) → Bool → ℕ → Element → Option ℕ
level_after end_name start_name nests level e = level_by (is_end end_name e) (is_start start_name nests e) level

-- the text of a body up to its end, after what was read of it, and the elements after that end; none if there is no end
abbrev pub escape : (end_name start_name : List ℕ) → Bool → ℕ → List ℕ → List Element → Option (List ℕ × List Element)
escape end_name start_name nests level so_far [] = None
escape end_name start_name nests level so_far (e ∷ es) =
    option_map_or (λ next. escape end_name start_name nests next (so_far ++ text_of e) es) (level_after end_name start_name nests level e)
    (Some (so_far, es))

-- a block that is open: its kind, the place of the name of its start tag, its plan, the nodes before it in the list
-- that it is in, and its parts up to its last divider
pub record Open (F T P B : Type 0) : Type 0 where
  pub kind : Block F P B
  pub place : Place
  pub plan : P
  pub before : List (NodeShape F T B)
  pub parts : List (List (NodeShape F T B))

-- how far a text is read: among the innermost block's nodes, of which there are these so far; or inside an escaped
-- body, of which this text is read, and in which this many start tags are without their ends
pub data State (F T P B : Type 0) : Type 0 where
  among : List (Open F T P B) → List (NodeShape F T B) → State F T P B
  inside : Open F T P B → List (Open F T P B) → ℕ → List ℕ → State F T P B

-- nothing is read yet
abbrev pub beginning : {F T P B : Type 0} → State F T P B
beginning = among [] []

-- the node of a block with these parts
abbrev pub block_with : {F T B : Type 0} → B → List (List (NodeShape F T B)) → NodeShape F T B
block_with made of = block_node made (parts_from (map nodes_from of))

-- the refusal of a text that ends inside a block with this end name
abbrev pub unclosed_by : List ℕ → List ℕ → Refusal
unclosed_by source end_name = refused_at source (codes "Unclosed block. {% " ++ (end_name ++ codes " %} tag expected.")) []

-- one more node after others, once it is made
abbrev pub node_added : {F T P B : Type 0} → List (Open F T P B) → List (NodeShape F T B) → Result (NodeShape F T B) Refusal
    → Result (State F T P B) Refusal
node_added blocks nodes made = ok_then made (λ node. Ok (among blocks (nodes ++ node ∷ [])))

-- a block ends with these parts: the list that it is in, with its node as the last
abbrev pub finished : {F T P B : Type 0} → Open F T P B → Body → List (List (NodeShape F T B)) → Result (List (NodeShape F T B)) Refusal
finished b body of = ok_then (placed_at b.place (b.kind.means.finish b.plan body)) (λ made. Ok (b.before ++ block_with made of ∷ []))

-- an element of an escaped body: at its end the body is the text up to there
abbrev pub escape_read : {F T P B : Type 0} → Open F T P B → List (Open F T P B) → List ℕ → List ℕ → Option ℕ
    → Result (State F T P B) Refusal
escape_read b blocks so_far content None = ok_then (finished b (escaped so_far) []) (λ nodes. Ok (among blocks nodes))
escape_read b blocks so_far content (Some level) = Ok (inside b blocks level (so_far ++ content))

-- a block that has begun is open, and its body is read or escaped
abbrev pub entered : {F T P B : Type 0} → Bool → Open F T P B → List (Open F T P B) → State F T P B
entered false b blocks = among (b ∷ blocks) []
entered true b blocks = inside b blocks 0 []

-- no block may be open where the text ends
abbrev pub ended : {F T P B : Type 0} → List ℕ → State F T P B → Result (List (NodeShape F T B)) Refusal
ended source (among [] nodes) = Ok nodes
ended source (among (b ∷ blocks) nodes) = Err (unclosed_by source b.kind.names.end_name)
ended source (inside b blocks level so_far) = Err (unclosed_by source b.kind.names.end_name)

-- the node of an expression
abbrev pub expression_read : {F T B : Type 0} → Filters F → List ℕ → token.Chain → Result (NodeShape F T B) Refusal
expression_read filters source chain = ok_then (chain_read filters source chain) (λ made. Ok (chain_node made))

-- the node that the tokens of a tag of the source give
abbrev pub tag_given : {F T B : Type 0} → List ℕ → token.Tag → Filters F → (Filters F → Tokens → Result T Refusal)
    → Result (NodeShape F T B) Refusal
tag_given source t filters make =
    ok_then (placed_at (place_in source (name_place t)) (make filters (handed source t))) (λ made. Ok (tag_node made))

-- a tag of the source is read
module _ {F T P B : Type 0} (source : List ℕ) (t : token.Tag) where
  -- it begins a block after these nodes
  abbrev pub begun : Filters F → Block F P B → List (NodeShape F T B) → Result (Open F T P B) Refusal
  begun filters kind nodes =
      ok_then (placed_at (place_in source (name_place t)) (kind.means.begin filters (handed source t)))
      (λ plan. Ok (record { kind = kind; place = place_in source (name_place t); plan = plan; before = nodes; parts = [] }))

  -- it divides a block: these nodes are its next part
  abbrev pub parted : Open F T P B → List (NodeShape F T B) → Result (Open F T P B) Refusal
  parted b nodes =
      ok_then (placed_at (place_in source (name_place t)) (b.kind.means.divide b.plan t.0 (handed source t)))
      (λ plan. Ok (record b { plan = plan; parts = b.parts ++ nodes ∷ [] }))

  -- it ends a block, and has no token: these nodes are its last part
  abbrev pub closed : Open F T P B → List (NodeShape F T B) → Result (List (NodeShape F T B)) Refusal
  closed b nodes = ok_then (expect_nothing (handed source t)) (λ _. finished b (parts (length b.parts + 1)) (b.parts ++ nodes ∷ []))

  -- a tag of the innermost block's end name ends it
  abbrev pub as_end : List (Open F T P B) → List (NodeShape F T B) → Option (Result (State F T P B) Refusal)
  as_end [] nodes = None
  as_end (b ∷ blocks) nodes =
      if bytes_eq t.0 b.kind.names.end_name
      then Some (ok_then (closed b nodes) (λ after. Ok (among blocks after)))
      else None

  -- one of its dividers ends a part of it
  abbrev pub as_divider : List (Open F T P B) → List (NodeShape F T B) → Option (Result (State F T P B) Refusal)
  as_divider [] nodes = None
  as_divider (b ∷ blocks) nodes =
      if list_any (bytes_eq t.0) b.kind.means.dividers
      then Some (ok_then (parted b nodes) (λ divided. Ok (among (divided ∷ blocks) [])))
      else None

-- the refusal of a tag that the language has neither as a tag nor as a block
abbrev pub unknown_tag : {F T P B : Type 0} → Lang F T P B → List ℕ → token.Tag → Refusal
unknown_tag l source t =
    with_context (codes "available blocks") (listed l.blocks.names)
    (with_context (codes "available tags") (listed l.tags.names)
    (with_context (codes "requested") t.0 (refused_at source (codes "Unknown tag.") (name_place t))))

-- elements are read in a language, inside this many blocks that are open around them all
module _ {F T P B : Type 0} (l : Lang F T P B) (source : List ℕ) (outside : ℕ) where
  -- a block begins in the open ones, unless these are too many
  abbrev pub block_begun : token.Tag → Block F P B → List (Open F T P B) → List (NodeShape F T B) → Result (State F T P B) Refusal
  block_begun t kind blocks nodes =
      if nat_lt (outside + length blocks) block_limit
      then ok_then (begun source t l.filters kind nodes) (λ b. Ok (entered kind.means.escapes b blocks))
      else Err (refused_at source (codes "Nested too deep") (name_place t))

  -- a tag of the language is a node, and a block of it begins
  abbrev pub as_tag : List (Open F T P B) → List (NodeShape F T B) → token.Tag → Option (Result (State F T P B) Refusal)
  as_tag blocks nodes t = option_map (λ make. node_added blocks nodes (tag_given source t l.filters make)) (l.tags.get t.0)

  abbrev pub as_block : List (Open F T P B) → List (NodeShape F T B) → token.Tag → Option (Result (State F T P B) Refusal)
  as_block blocks nodes t = option_map (λ kind. block_begun t kind blocks nodes) (l.blocks.get t.0)

  -- a tag of the language, otherwise a block of it, otherwise a refusal
  abbrev pub outer_read : token.Tag → List (Open F T P B) → List (NodeShape F T B) → Result (State F T P B) Refusal
  outer_read t blocks nodes = unwrap_or (option_or (as_tag blocks nodes t) (as_block blocks nodes t)) (Err (unknown_tag l source t))

  -- a tag is the innermost block's end, a divider of it, a tag of the language or a block of it: the first of these
  -- that it is
  abbrev pub tag_read : List (Open F T P B) → List (NodeShape F T B) → token.Tag → Result (State F T P B) Refusal
  tag_read blocks nodes t =
      unwrap_or (option_or (as_end source t blocks nodes) (as_divider source t blocks nodes)) (outer_read t blocks nodes)

  -- an element is read, with this text after it
  abbrev pub element_read : List (Open F T P B) → List (NodeShape F T B) → Element → List ℕ → Result (State F T P B) Refusal
  element_read blocks nodes (raw t) following = Ok (among blocks (nodes ++ text_node t ∷ []))
  element_read blocks nodes (expression c t) following =
      ok_then (checked source (chain_fault c)) (λ _. node_added blocks nodes (expression_read l.filters source c))
  element_read blocks nodes (tag_element t _) following = ok_then (checked source (tag_fault t)) (λ _. tag_read blocks nodes t)
  element_read blocks nodes (invalid t) following = Err (refused_at source (codes "Invalid liquid") (open_brace ∷ following))

  abbrev pub step : State F T P B → Element → List ℕ → Result (State F T P B) Refusal
  step (among blocks nodes) e following = element_read blocks nodes e following
  step (inside b blocks level so_far) e following =
      escape_read b blocks so_far (text_of e) (level_after b.kind.names.end_name b.kind.names.start_name b.kind.means.nests level e)

  -- the elements are read from left to right, and the first refusal is the result
  abbrev pub read : State F T P B → List Element → Result (List (NodeShape F T B)) Refusal
  read s [] = ended source s
  read s (e ∷ es) = ok_then (step s e (joined es)) (λ next. read next es)

-- what the elements of the source are read as
abbrev pub answer : {F T P B : Type 0} → Lang F T P B → List ℕ → List Element → Result (List (NodeShape F T B)) Refusal
answer l source es = read l source 0 beginning es

-- the text is read as this result: it is the result of the elements that cover the text
pub record Reads {F T P B : Type 0} (l : Lang F T P B) (s : List ℕ) (a : Result (List (NodeShape F T B)) Refusal) : Type 0 where
  pub elements : List Element
  pub cover : Cover s elements
  pub is : a ≡ answer l s elements

-- what the call returns is what the text is read as; an out-of-memory error says nothing
abbrev pub Answers : {F T P B A : Type 0} → (A → List (NodeShape F T B)) → Lang F T P B → List ℕ → Result A Error → Type 0
Answers of l s (Ok nodes) = Reads l s (Ok (of nodes))
Answers of l s (Err error) = IfSome (told error) (λ refusal. Reads l s (Err refusal))

-- each text is read as exactly one result
abbrev pub OneReading : {F T P B : Type 0} → Lang F T P B → Type 0
OneReading {F} {T} {P} {B} l =
    (s : List ℕ) → (a : Result (List (NodeShape F T B)) Refusal) × Reads l s a
    × ((b : Result (List (NodeShape F T B)) Refusal) → Reads l s b → b ≡ a)
