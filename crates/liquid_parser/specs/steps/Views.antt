-- What the parser's stack means to the reading.
use Rattle.std.specs.Prelude.{◌≡◌, ℕ, List, [], ◌∷◌, map, reverse, Option, Some, None, Result, Ok, Err, IfSome}
use Rattle.std.specs.Borrow.{Bor}
use Rattle.std.specs.Global.{Vec}
use Rattle.liquid_error.specs.declared.error.Error.{Error}
use Rattle.liquid_error.specs.meaning.Told.{told, Gives}
use Rattle.liquid_error.specs.meaning.Refusal.{Refusal, ok_then}
use Rattle.liquid_grammar.specs.meaning.Cover.{Element, Cover}
use Rattle.liquid_plugins.specs.declared.tree.Node.{Node}
use Rattle.liquid_plugins.specs.meaning.Nodes.{NodeShape}
use Rattle.liquid_parser.specs.declared.cursor.element.BlockElement.{BlockElement}
use Rattle.liquid_parser.specs.declared.reading.stack.OpenBlock.{OpenBlock}
use Rattle.liquid_parser.specs.declared.reading.stack.ParserState.{ParserState}
use Rattle.liquid_parser.specs.declared.reading.stack.Next.{Next}
use Rattle.liquid_parser.specs.declared.reading.stack.Next.TheVariants.{Among, Escaped}
use Rattle.liquid_plugins.specs.meaning.NodesOf.{shapes_of}
use Rattle.liquid_parser.specs.meaning.Elements.{IfElement}
use Rattle.liquid_parser.specs.meaning.Handed.{place_in}
use Rattle.liquid_parser.specs.meaning.Lang.{Lang, Block, escaped}
use Rattle.liquid_parser.specs.meaning.Reading.{Open, State, among, inside, step, escape, finished, unclosed_by}

-- the state that a call leads to, and the elements that are left of the text after it; an out-of-memory error says
-- nothing
abbrev pub LeadsTo : {A S : Type 0} → (A → S) → Result (A × Bor (List ℕ)) Error → Result (S × List Element) Refusal → Type 0
LeadsTo of (Ok p) meant = (left : List Element) × Cover p.1.now left × (meant ≡ Ok (of p.0, left))
LeadsTo of (Err e) meant = IfSome (told e) (λ r. meant ≡ Err r)

-- the same for a call to which the state is lent, and which leaves it at this one
abbrev pub LeavesAt : {S : Type 0} → S → Result (Bor (List ℕ)) Error → Result (S × List Element) Refusal → Type 0
LeavesAt st (Ok rest) meant = (left : List Element) × Cover rest.now left × (meant ≡ Ok (st, left))
LeavesAt st (Err e) meant = IfSome (told e) (λ r. meant ≡ Err r)

-- blocks of the program, over what filters, tag nodes, block nodes, plans and kinds of block mean
module _ {X N K L W F T B P : Type 0} (filter : X → F) (tag : N → T) (block : K → B) (plan : L → P) (kind : W → Block F P B) where
  abbrev pub open_view : OpenBlock W L (Node X N K) → Open F T P B
  open_view o = record {
    kind = kind o.kind.now;
    place = place_in o.source.now o.from.now;
    plan = plan o.plan;
    before = shapes_of filter tag block o.before.items;
    parts = map (λ v. shapes_of filter tag block v.items) o.parts.items;
  }

  -- the innermost block is the last one in the program
  abbrev pub blocks_view : List (OpenBlock W L (Node X N K)) → List (Open F T P B)
  blocks_view bs = reverse (map open_view bs)

  abbrev pub state_view : ParserState W L (Node X N K) → State F T P B
  state_view s = among (blocks_view s.open.items) (shapes_of filter tag block s.nodes.items)

  -- what the step says in addition to the state that it leaves
  abbrev pub next_view : Next W L (Node X N K) → ParserState W L (Node X N K) → State F T P B
  next_view Among s = state_view s
  next_view (Escaped b) s = inside (open_view b) (blocks_view s.open.items) 0 []

  -- a call that opens a block after these nodes, divides a block or closes it gives what is meant of the block and of
  -- these nodes, which are the next part of an open block
  abbrev pub Opens : List (Node X N K) → Result (OpenBlock W L (Node X N K)) Error
      → (List (NodeShape F T B) → Result (Open F T P B) Refusal) → Type 0
  Opens nodes result meant = Gives open_view result (meant (shapes_of filter tag block nodes))

  abbrev pub Divides : {U : Type 0} → (old new : OpenBlock W L (Node X N K)) → List (Node X N K) → Result U Error
      → (Open F T P B → List (NodeShape F T B) → Result (Open F T P B) Refusal) → Type 0
  Divides old new nodes result meant = Gives (λ _. open_view new) result (meant (open_view old) (shapes_of filter tag block nodes))

  abbrev pub Closes : OpenBlock W L (Node X N K) → List (Node X N K) → Result (Vec (Node X N K)) Error
      → (Open F T P B → List (NodeShape F T B) → Result (List (NodeShape F T B)) Refusal) → Type 0
  Closes b nodes result meant =
      Gives (λ v. shapes_of filter tag block v.items) result (meant (open_view b) (shapes_of filter tag block nodes))

  -- a call takes the state one step on: to what is meant of its open blocks and of the nodes so far
  abbrev pub Steps : (old new : ParserState W L (Node X N K)) → Result (Next W L (Node X N K)) Error
      → (List (Open F T P B) → List (NodeShape F T B) → Result (State F T P B) Refusal) → Type 0
  Steps old new result meant =
      Gives (λ n. next_view n new) result (meant (blocks_view old.open.items) (shapes_of filter tag block old.nodes.items))

  -- the same if a block is open: to what is meant of the innermost block, of those around it and of the nodes so far
  abbrev pub StepsInside : (old new : ParserState W L (Node X N K)) → Result (Next W L (Node X N K)) Error
      → (Open F T P B → List (Open F T P B) → List (NodeShape F T B) → Result (State F T P B) Refusal) → Type 0
  StepsInside old new result meant =
      (b : Open F T P B) (blocks : List (Open F T P B)) → blocks_view old.open.items ≡ b ∷ blocks
      → Gives (λ n. next_view n new) result (meant b blocks (shapes_of filter tag block old.nodes.items))

  -- a call reads some of the text from a state on, which it leaves at a state
  abbrev pub Leaves : Next W L (Node X N K) → (old new : ParserState W L (Node X N K)) → List ℕ → Result (Bor (List ℕ)) Error
      → (State F T P B → List Element → Result (State F T P B × List Element) Refusal) → Type 0
  Leaves next old new text result meant =
      (es : List Element) → Cover text es → LeavesAt (state_view new) result (meant (next_view next old) es)

  -- the same for an element, which this text follows
  abbrev pub Advances : BlockElement → (old new : ParserState W L (Node X N K)) → List ℕ → Result (Bor (List ℕ)) Error
      → (State F T P B → (own following : List ℕ) → Element → List Element → Result (State F T P B × List Element) Refusal) → Type 0
  Advances element old new text result meant =
      IfElement element (λ own following e. Leaves Among old new text result (λ st es. meant st own following e es))

  -- a call reads some of the text from a state on, up to these nodes
  abbrev pub ReadsOn : Next W L (Node X N K) → ParserState W L (Node X N K) → List ℕ → Result (Vec (Node X N K) × Bor (List ℕ)) Error
      → (State F T P B → List Element → Result (List (NodeShape F T B) × List Element) Refusal) → Type 0
  ReadsOn next s text result meant =
      (es : List Element) → Cover text es → LeadsTo (λ v. shapes_of filter tag block v.items) result (meant (next_view next s) es)

-- the escaped body of a block that has just begun is read to its end: how far the text is read then, and the elements
-- that are left
abbrev pub escaped_body : {F T P B : Type 0} → List ℕ → Open F T P B → List (Open F T P B) → Option (List ℕ × List Element)
    → Result (State F T P B × List Element) Refusal
escaped_body source b blocks None = Err (unclosed_by source b.kind.names.end_name)
escaped_body source b blocks (Some p) = ok_then (finished b (escaped p.0) []) (λ nodes. Ok (among blocks nodes, p.1))

-- what follows a state: in an escaped body, its end
abbrev pub past_escaped : {F T P B : Type 0} → List ℕ → State F T P B → List Element → Result (State F T P B × List Element) Refusal
past_escaped source (among blocks nodes) es = Ok (among blocks nodes, es)
past_escaped source (inside b blocks level so_far) es =
    escaped_body source b blocks (escape b.kind.names.end_name b.kind.names.start_name b.kind.means.nests level so_far es)

-- an element of its own text is read, and the escaped body that it begins
abbrev pub advanced : {F T P B : Type 0} → Lang F T P B → (source : List ℕ) → ℕ → State F T P B → (own following : List ℕ) → Element
    → List Element → Result (State F T P B × List Element) Refusal
advanced l source outside st own following e es = ok_then (step l own outside st e following) (λ next. past_escaped source next es)
