-- What an element is read as, and the node that it gives, with what it takes of the elements after it.
use Rattle.std.specs.Prelude.{◌≡◌, ℕ, List, [], ◌∷◌, Result, Ok, Err, IfSome}
use Rattle.liquid_error.specs.declared.error.Error.{Error}
use Rattle.liquid_error.specs.meaning.Refusal.{Refusal, ok_then}
use Rattle.liquid_error.specs.meaning.Told.{told}
use Rattle.liquid_grammar.specs.meaning.Cover.{Element, raw, tag_element, expression, invalid, joined}
use Rattle.liquid_grammar.specs.meaning.Faults.{tag_fault, chain_fault}
use Rattle.liquid_grammar.specs.meaning.Tokens as token
use Rattle.liquid_plugins.specs.meaning.Nodes.{NodeShape}
use Rattle.liquid_parser.specs.declared.cursor.element.BlockElement.{BlockElement}
use Rattle.liquid_parser.specs.meaning.Elements.{StandsFor}
use Rattle.liquid_parser.specs.meaning.Lang.{Lang}
use Rattle.liquid_parser.specs.meaning.Reading.{State, among, inside, beginning, step, checked, tag_read, unclosed_by}

-- the check of the literals and brackets of an element, from left to right
abbrev pub element_checked : List ℕ → Element → Result (Unit {0}) Refusal
element_checked source (raw text) = Ok tt
element_checked source (tag_element tag text) = checked source (tag_fault tag)
element_checked source (expression chain text) = checked source (chain_fault chain)
element_checked source (invalid text) = Ok tt

-- an element is returned once it is checked; an out-of-memory error says nothing
abbrev pub HandsOver : Result BlockElement Error → (source following : List ℕ) → Element → Type 0
HandsOver (Ok x) source following e = (element_checked source e ≡ Ok tt) × StandsFor x source following e
HandsOver (Err error) source following e = IfSome (told error) (λ r. element_checked source e ≡ Err r)

-- elements of the source are read in a language, inside this many blocks that are open around them all
module _ {F T P B : Type 0} (l : Lang F T P B) (source : List ℕ) (outside : ℕ) where
  -- until no block is open: the nodes, and the elements that are left
  abbrev pub read_closed : State F T P B → List Element → Result (List (NodeShape F T B) × List Element) Refusal
  read_closed (among [] nodes) es = Ok (nodes, es)
  read_closed (among (b ∷ blocks) nodes) [] = Err (unclosed_by source b.kind.names.end_name)
  read_closed (among (b ∷ blocks) nodes) (e ∷ es) =
      ok_then (step l source outside (among (b ∷ blocks) nodes) e (joined es)) (λ next. read_closed next es)
  read_closed (inside b blocks level so_far) [] = Err (unclosed_by source b.kind.names.end_name)
  read_closed (inside b blocks level so_far) (e ∷ es) =
      ok_then (step l source outside (inside b blocks level so_far) e (joined es)) (λ next. read_closed next es)

  -- the node that an element of its own text gives, with this text after it there; a block takes its body and its end
  -- from the elements of the source
  abbrev pub node_read : (own following : List ℕ) → Element → List Element → Result (List (NodeShape F T B) × List Element) Refusal
  node_read own following e es = ok_then (step l own outside beginning e following) (λ next. read_closed next es)

  -- the same for a tag that was checked
  abbrev pub tag_node_read : (own : List ℕ) → token.Tag → List Element → Result (List (NodeShape F T B) × List Element) Refusal
  tag_node_read own t es = ok_then (tag_read l own outside [] [] t) (λ next. read_closed next es)
