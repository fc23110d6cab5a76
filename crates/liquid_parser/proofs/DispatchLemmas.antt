-- The classification of a tag, from the steps of the parser.
use Rattle.std.proofs.Common.{
  ◌≡◌,
  ◌+◌,
  ◌<◌,
  arith,
  ℕ,
  true,
  false,
  List,
  [],
  ◌∷◌,
  ◌++◌,
  length,
  Option,
  Some,
  None,
  Result,
  Ok,
  Err,
  refl,
  sym,
  ap,
  ◌∙◌,
  subst,
}
use Rattle.std.specs.Prelude.{IfSome, bytes_eq, map, reverse, nat_lt, codes}
use Rattle.std.proofs.lemmas.List.{map_push, reverse-append, length-reverse, length-map}
use Rattle.std.specs.List.{list_any}
use Rattle.liquid_error.specs.declared.error.Error.{Error}
use Rattle.liquid_error.specs.meaning.Told.{Gives}
use Rattle.liquid_error.specs.meaning.Refusal.{Refusal, ok_then}
use Rattle.liquid_grammar.specs.meaning.Tokens as token
use Rattle.liquid_plugins.specs.meaning.Nodes.{NodeShape}
use Rattle.liquid_parser.specs.meaning.Handed.{Tokens}
use Rattle.liquid_parser.specs.meaning.Lang.{Filters, Lang, Block}
use Rattle.liquid_parser.specs.meaning.Reading.{
  Open,
  among,
  begun,
  block_begun,
  closed,
  entered,
  name_place,
  outer_read,
  parted,
  refused_at,
  tag_given,
  tag_read,
  unknown_tag,
}

module _ {F T P B : Type 0} (l : Lang F T P B) (source : List ℕ) (outside : ℕ) (t : token.Tag) (b : Open F T P B)
    (blocks : List (Open F T P B)) (nodes : List (NodeShape F T B)) where
  pub end_read : bytes_eq t.0 b.kind.names.end_name ≡ true → tag_read l source outside (b ∷ blocks) nodes t ≡ ok_then
      (closed source t b nodes) (λ after. Ok (among blocks after))
  end_read is = rw is refl

  pub divider_read : bytes_eq t.0 b.kind.names.end_name ≡ false → list_any (bytes_eq t.0) b.kind.means.dividers ≡ true
      → tag_read l source outside (b ∷ blocks) nodes t ≡ ok_then (parted source t b nodes) (λ divided. Ok (among (divided ∷ blocks) []))
  divider_read differs is = rw (differs, is) refl

  pub other_read : bytes_eq t.0 b.kind.names.end_name ≡ false → list_any (bytes_eq t.0) b.kind.means.dividers ≡ false
      → tag_read l source outside (b ∷ blocks) nodes t ≡ outer_read l source outside t (b ∷ blocks) nodes
  other_read differs none = rw (differs, none) refl

-- a result that follows from another
pub then_ok : {A C : Type 0} (r : Result C Refusal) (m : Result A Refusal) (k : A → Result C Refusal) (x : A) → r ≡ ok_then m k → m ≡ Ok x
    → r ≡ k x
then_ok r m k x e h = e ∙ ap (λ n. ok_then n k) h

pub then_err : {A C : Type 0} (told : Option Refusal) (r : Result C Refusal) (m : Result A Refusal) (k : A → Result C Refusal)
    → r ≡ ok_then m k → IfSome told (λ x. m ≡ Err x) → IfSome told (λ x. r ≡ Err x)
then_err None r m k e h = tt
then_err (Some x) r m k e h = e ∙ ap (λ n. ok_then n k) h

-- a refusal that is this one
pub err_now : {C : Type 0} (told : Option Refusal) (r : Result C Refusal) (x : Refusal) → r ≡ Err x → IfSome told (λ y. y ≡ x)
    → IfSome told (λ y. r ≡ Err y)
err_now None r x e h = tt
err_now (Some y) r x e h = e ∙ ap (λ z. Err z) (sym h)

-- the result of another call
pub with_outer : {A C : Type 0} (f : A → C) (r m : Result C Refusal) (result : Result A Error) → r ≡ m → Gives f result m → Gives f result r
with_outer f r m result e h = subst (λ x. Gives f result x) (sym e) h

-- the block that is pushed last is the innermost
pub push_block : {A C : Type 0} (f : A → C) (old : List A) (a : A) {new : List A} → new ≡ old ++ a ∷ [] → reverse (map f new) ≡ f a
    ∷ reverse (map f old)
push_block f old a e = ap (λ x. reverse (map f x)) e ∙ (ap reverse (map_push f old a) ∙ reverse-append (map f old) (f a ∷ []))

pub nothing_left : {A : Type 0} (xs : List A) → (0 < length xs → false ≡ true) → xs ≡ []
nothing_left [] none = refl
nothing_left (x ∷ xs) none = cc (none (omega arith))

pub blocks_count : {A C : Type 0} (f : A → C) (xs : List A) → length (reverse (map f xs)) ≡ length xs
blocks_count f xs = length-reverse (map f xs) ∙ length-map xs f

module _ {F T P B : Type 0} (l : Lang F T P B) (source : List ℕ) (outside : ℕ) (t : token.Tag) (blocks : List (Open F T P B))
    (nodes : List (NodeShape F T B)) where
  pub tag_outer : (make : Filters F → Tokens → Result T Refusal) → l.tags.get t.0 ≡ Some make
      → outer_read l source outside t blocks nodes ≡ ok_then (tag_given source t l.filters make) (λ n. Ok (among blocks (nodes ++ n ∷ [])))
  tag_outer make has = rw has refl

  pub block_outer : (kind : Block F P B) → l.tags.get t.0 ≡ None → l.blocks.get t.0 ≡ Some kind
      → outer_read l source outside t blocks nodes ≡ block_begun l source outside t kind blocks nodes
  block_outer kind none has = rw (none, has) refl

  pub unknown_outer : l.tags.get t.0 ≡ None → l.blocks.get t.0 ≡ None
      → outer_read l source outside t blocks nodes ≡ Err (unknown_tag l source t)
  unknown_outer none nor = rw (none, nor) refl

  pub room_begun : (kind : Block F P B) → nat_lt (outside + length blocks) 100 ≡ true
      → block_begun l source outside t kind blocks nodes ≡ ok_then (begun source t l.filters kind nodes)
      (λ b. Ok (entered kind.means.escapes b blocks))
  room_begun kind room = rw room refl

  pub deep_begun : (kind : Block F P B) → nat_lt (outside + length blocks) 100 ≡ false
      → block_begun l source outside t kind blocks nodes ≡ Err (refused_at source (codes "Nested too deep") (name_place t))
  deep_begun kind room = rw room refl
