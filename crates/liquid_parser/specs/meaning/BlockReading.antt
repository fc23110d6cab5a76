-- What the cursor over a block's elements returns, and the result of parsing them.
use Rattle.std.specs.Prelude.{
  ◌≡◌,
  ℕ,
  Bool,
  false,
  true,
  List,
  [],
  ◌∷◌,
  ◌++◌,
  length,
  if◌then◌else◌,
  bytes_eq,
  Option,
  Some,
  None,
  Result,
  Ok,
  Err,
  IfSome,
}
use Rattle.liquid_error.specs.declared.error.Error.{Error}
use Rattle.liquid_error.specs.meaning.Refusal.{Refusal, ok_then}
use Rattle.liquid_error.specs.meaning.Told.{told}
use Rattle.liquid_grammar.specs.meaning.Cover.{Element, raw, tag_element, expression, invalid, joined, Cover}
use Rattle.liquid_plugins.specs.meaning.Nodes.{NodeShape}
use Rattle.liquid_parser.specs.declared.cursor.block.TagBlock.{TagBlock}
use Rattle.liquid_parser.specs.declared.cursor.element.BlockElement.{BlockElement}
use Rattle.liquid_parser.specs.meaning.Elements.{StandsFor}
use Rattle.liquid_parser.specs.meaning.ElementReading.{element_checked, node_read}
use Rattle.liquid_parser.specs.meaning.Handed.{handed, expect_nothing}
use Rattle.liquid_parser.specs.meaning.Lang.{Lang}
use Rattle.liquid_parser.specs.meaning.Reading.{unclosed_by}

-- a block that ends at this name
module _ (source end_name : List ℕ) where
  -- a checked element of it: itself, or nothing if it is the end tag, which has no tokens
  abbrev pub or_end : Element → Result (Option Element) Refusal
  or_end (raw text) = Ok (Some (raw text))
  or_end (tag_element t text) =
      if bytes_eq t.0 end_name
      then ok_then (expect_nothing (handed source t)) (λ _. Ok None)
      else Ok (Some (tag_element t text))
  or_end (expression c text) = Ok (Some (expression c text))
  or_end (invalid text) = Ok (Some (invalid text))

  -- what is returned if these elements are left
  abbrev pub handed_out : List Element → Result (Option Element) Refusal
  handed_out [] = Err (unclosed_by source end_name)
  handed_out (e ∷ es) = ok_then (element_checked source e) (λ _. or_end e)

-- the end tag closes the block, and everything else is returned
abbrev pub end_or : Element → Bool → Option Element
end_or e true = None
end_or e false = Some e

-- the elements after the first, which is passed whatever it is
abbrev pub following_first : List Element → List Element
following_first [] = []
following_first (e ∷ es) = es

-- the call returns what is meant; an out-of-memory error says nothing about the meaning. The block is closed exactly at
-- its end tag
abbrev pub HandsOut : Result (Option BlockElement) Error → TagBlock → Result (Option Element) Refusal → Type 0
HandsOut (Ok (Some x)) block meant =
    (e : Element) × (meant ≡ Ok (Some e)) × StandsFor x block.source.now block.rest.now e × (block.is_closed ≡ false)
HandsOut (Ok None) block meant = (meant ≡ Ok None) × (block.is_closed ≡ true)
HandsOut (Err error) block meant = IfSome (told error) (λ r. meant ≡ Err r) × (block.is_closed ≡ false)

-- the cursor of the same block, here or further on in the source
pub record Passes (old new : TagBlock) : Type 0 where
  pub source_is : new.source ≡ old.source
  pub start_is : new.start_name ≡ old.start_name
  pub end_is : new.end_name ≡ old.end_name
  pub passed : List ℕ
  pub joined : old.rest.now ≡ passed ++ new.rest.now

-- the length of the source that is left
abbrev pub bytes_left : TagBlock → ℕ
bytes_left block = length block.rest.now

-- the text up to the end of an escaped body, and the elements after it; or the text has no end
abbrev pub Escapes : {T : Type 0} → (T → List ℕ) → Result T Error → TagBlock → Option (List ℕ × List Element) → Type 0
Escapes of (Ok t) block meant = (left : List Element) × Cover block.rest.now left × (meant ≡ Some (of t, left)) × (block.is_closed ≡ true)
Escapes of (Err error) block meant =
    (meant ≡ None) × IfSome (told error) (λ r. r ≡ unclosed_by block.source.now block.end_name.now) × (block.rest.now ≡ [])
    × (block.is_closed ≡ false)

-- the node that an element is parsed into, and the elements that are left after it; an out-of-memory error says nothing
abbrev pub Parsed : {A N : Type 0} → (A → N) → Result A Error → TagBlock → Result (List N × List Element) Refusal → Type 0
Parsed of (Ok n) block meant = (left : List Element) × Cover block.rest.now left × (meant ≡ Ok (of n ∷ [], left))
Parsed of (Err error) block meant = IfSome (told error) (λ r. meant ≡ Err r)

-- the same, by what is meant of the elements that were left before
abbrev pub ParsedFrom : {A N : Type 0} → (A → N) → Result A Error → (old new : TagBlock)
    → (List Element → Result (List N × List Element) Refusal) → Type 0
ParsedFrom of result old new meant = (es : List Element) → Cover old.rest.now es → Parsed of result new (meant es)

-- elements of a block are read in a language, inside this many blocks that are open around them, including it
module _ {F T P B : Type 0} (l : Lang F T P B) (source end_name : List ℕ) (outside : ℕ) where
  abbrev pub element_or_end : Option Element → List Element → Result (Option (List (NodeShape F T B)) × List Element) Refusal
  element_or_end None es = Ok (None, es)
  element_or_end (Some e) es = ok_then (node_read l source outside source (joined es) e es) (λ p. Ok (Some p.0, p.1))

  -- the next node, or none at the end tag, with the elements that are left
  abbrev pub next_read : List Element → Result (Option (List (NodeShape F T B)) × List Element) Refusal
  next_read es = ok_then (handed_out source end_name es) (λ found. element_or_end found (following_first es))

-- nodes in front of those that are read further on
abbrev pub in_front : {N : Type 0} → List N → Result (List N × List Element) Refusal → Result (List N × List Element) Refusal
in_front nodes a = ok_then a (λ p. Ok (nodes ++ p.0, p.1))

-- all nodes up to the end tag, with the elements after it; the first refusal is the result
pub data AllRead {F T P B : Type 0} (l : Lang F T P B) (source end_name : List ℕ) (outside : ℕ) : List Element
    → Result (List (NodeShape F T B) × List Element) Refusal → Type 0 where
  refused : {es : List Element} {r : Refusal} → next_read l source end_name outside es ≡ Err r
      → AllRead l source end_name outside es (Err r)
  ended : {es left : List Element} → next_read l source end_name outside es ≡ Ok (None, left)
      → AllRead l source end_name outside es (Ok ([], left))
  one_more : {es left : List Element} {nodes : List (NodeShape F T B)} {a : Result (List (NodeShape F T B) × List Element) Refusal}
      → next_read l source end_name outside es ≡ Ok (Some nodes, left) → AllRead l source end_name outside left a
      → AllRead l source end_name outside es (in_front nodes a)

-- the same for calls: the next node, and all nodes
abbrev pub ParsedNext : {A N : Type 0} → (A → N) → Result (Option A) Error → TagBlock → Result (Option (List N) × List Element) Refusal
    → Type 0
ParsedNext of (Ok (Some n)) block meant =
    (left : List Element) × Cover block.rest.now left × (meant ≡ Ok (Some (of n ∷ []), left)) × (block.is_closed ≡ false)
ParsedNext of (Ok None) block meant =
    (left : List Element) × Cover block.rest.now left × (meant ≡ Ok (None, left)) × (block.is_closed ≡ true)
ParsedNext of (Err error) block meant = IfSome (told error) (λ r. meant ≡ Err r)

abbrev pub FindsAll : {F T P B A : Type 0} → (A → List (NodeShape F T B)) → Lang F T P B → ℕ → Result A Error → TagBlock → List Element
    → Type 0
FindsAll of l outside (Ok nodes) block es =
    (left : List Element) × Cover block.rest.now left × AllRead l block.source.now block.end_name.now outside es (Ok (of nodes, left))
    × (block.is_closed ≡ true)
FindsAll of l outside (Err error) block es = IfSome (told error) (λ r. AllRead l block.source.now block.end_name.now outside es (Err r))

abbrev pub IsAll : {A N : Type 0} → (A → List N) → Result A Error → TagBlock → Result (List N × List Element) Refusal → Type 0
IsAll of (Ok nodes) block meant = (left : List Element) × Cover block.rest.now left × (meant ≡ Ok (of nodes, left))
IsAll of (Err error) block meant = IfSome (told error) (λ r. meant ≡ Err r)

-- the next node, by what is meant of the elements that were left before
abbrev pub ParsedNextFrom : {A N : Type 0} → (A → N) → Result (Option A) Error → (old new : TagBlock)
    → (List Element → Result (Option (List N) × List Element) Refusal) → Type 0
ParsedNextFrom of result old new meant = (es : List Element) → Cover old.rest.now es → ParsedNext of result new (meant es)

-- all nodes: whatever the elements that were left before are read as, the call returns it, or is out of memory
abbrev pub IsEachReading : {F T P B A : Type 0} → (A → List (NodeShape F T B)) → Lang F T P B → ℕ → Result A Error → (old new : TagBlock)
    → Type 0
IsEachReading {F} {T} {P} {B} of l outside result old new = (es : List Element) (a : Result (List (NodeShape F T B) × List Element) Refusal)
    → Cover old.rest.now es → AllRead l old.source.now old.end_name.now outside es a → IsAll of result new a
