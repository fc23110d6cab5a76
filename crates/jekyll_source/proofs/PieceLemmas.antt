-- The pieces of a text: each leaves less of it.
use Rattle.std.proofs.Common.{
  ◌≡◌,
  ◌≢◌,
  ℕ,
  zero,
  suc,
  ◌+◌,
  ◌-◌,
  ◌<◌,
  ◌≤◌,
  Bool,
  true,
  false,
  cond,
  ◌==◌,
  ◌&&◌,
  List,
  [],
  ◌∷◌,
  ◌++◌,
  Option,
  Some,
  None,
  length,
  take,
  drop,
  codes,
  refl,
  sym,
  ap,
  ◌∙◌,
  arith,
  append_assoc,
  length-drop,
}
use Rattle.std.specs.Option.{option_map, option_map_or}
use Rattle.std.specs.Str.{byte, bytes_eq}
use Rattle.memchr.specs.Find.{first_of, matches}
use Rattle.jekyll_source.specs.meaning.Bodies.{body_len, split_body}
use Rattle.jekyll_source.specs.meaning.Piece.{Piece, plain}
use Rattle.jekyll_source.specs.meaning.Pieces.{
  Taken,
  first_piece,
  pieces,
  pieces_in,
  plain_len,
  plain_taken,
  tag_or_plain,
  tag_taken,
  value_or_plain,
  value_taken,
  whole_value,
}
use Rattle.jekyll_source.specs.meaning.Splits.{Parts, after_opener, split_around, split_at}
use Rattle.jekyll_source.specs.meaning.Tags.{named}
use Rattle.jekyll_source.proofs.Shorter.{drop_shorter}

-- what follows an opener is shorter
pub after_shorter : (kind : ℕ) (text rest : List ℕ) → after_opener kind text ≡ Some rest → length rest + 2 ≡ length text
after_shorter kind [] rest e = absurd (cc)
after_shorter kind (a ∷ []) rest e = absurd (cc)
after_shorter kind (a ∷ b ∷ bs) rest e = go (a == byte "{" && b == kind) refl e
  where
    go : (t : Bool) → (a == byte "{" && b == kind) ≡ t → cond t (Some bs) None ≡ Some rest → length rest + 2 ≡ length (a ∷ b ∷ bs)
    go true is h = let same : bs ≡ rest = cc in rw (sym same) (omega arith)
    go false is h = absurd (cc)

body_shorter : (name text : List ℕ) → length (split_body name text).1 ≤ length text
body_shorter name text = go (bytes_eq name (codes "raw")) (bytes_eq name (codes "comment"))
  where
    raw_body : Parts
    raw_body = split_at (body_len None (codes "endraw") 0 text) text

    comment_body : Parts
    comment_body = split_at (body_len (Some (codes "comment")) (codes "endcomment") 0 text) text

    go : (t u : Bool) → length (cond t (split_at (body_len None (codes "endraw") 0 text) text)
        (cond u (split_at (body_len (Some (codes "comment")) (codes "endcomment") 0 text) text) (split_at 0 text))).1 ≤ length text
    go true u = drop_shorter _ text
    go false true = drop_shorter _ text
    go false false = drop_shorter 0 text

module _ (text rest : List ℕ) where
  tag_shorter : (closer : List ℕ) (r : Option ℕ)
      → length (option_map_or tag_taken (option_map (λ at. (take at rest, drop (at + length closer) rest)) r) (plain text, [])).1 ≤ length
      rest
  tag_shorter closer None = omega arith
  tag_shorter closer (Some at) =
      let after = drop (at + length closer) rest in
      omega (arith, body_shorter (named (take at rest)).0 after, drop_shorter (at + length closer) rest)

  value_shorter : (closer : List ℕ) (r : Option ℕ)
      → length (option_map_or value_taken (option_map (λ at. (take at rest, drop (at + length closer) rest)) r) (plain text, [])).1 ≤ length
      rest
  value_shorter closer None = omega arith
  value_shorter closer (Some at) = drop_shorter (at + length closer) rest

plain_shorter : (b : ℕ) (bs : List ℕ) → length (plain_taken (split_at (plain_len (b ∷ bs)) (b ∷ bs))).1 ≤ length bs
plain_shorter b bs = omega (arith, length-drop (plain_len (b ∷ bs)) (b ∷ bs))

-- the first piece leaves less of a text
pub first_shorter : (b : ℕ) (bs : List ℕ) → length (first_piece (b ∷ bs)).1 ≤ length bs
first_shorter b bs = tagged (after_opener (byte "%") (b ∷ bs)) refl
  where
    text : List ℕ
    text = b ∷ bs

    valued : (o : Option (List ℕ)) → after_opener (byte "{") (b ∷ bs) ≡ o
        → length (option_map_or (λ rest. whole_value (b ∷ bs) rest) o (plain_taken (split_at (plain_len (b ∷ bs)) (b ∷ bs)))).1 ≤ length bs
    valued None e = plain_shorter b bs
    valued (Some rest) e = omega (
      arith,
      after_shorter (byte "{") (b ∷ bs) rest e,
      value_shorter (b ∷ bs) rest (codes "}}") (first_of (matches rest (codes "}}") 0)),
    )

    tagged : (o : Option (List ℕ)) → after_opener (byte "%") (b ∷ bs) ≡ o
        → length (option_map_or (λ rest. tag_or_plain (b ∷ bs) rest) o (value_or_plain (b ∷ bs))).1 ≤ length bs
    tagged None e = valued (after_opener (byte "{") (b ∷ bs)) refl
    tagged (Some rest) e = omega (
      arith,
      after_shorter (byte "%") (b ∷ bs) rest e,
      tag_shorter (b ∷ bs) rest (codes "%}") (first_of (matches rest (codes "%}") 0)),
    )

-- as many pieces as bytes are all pieces
pub all_pieces : (n m : ℕ) (text : List ℕ) → length text ≤ n → length text ≤ m → pieces_in n text ≡ pieces_in m text
all_pieces zero zero text h k = refl
all_pieces zero (suc m) [] h k = refl
all_pieces (suc n) zero [] h k = refl
all_pieces (suc n) (suc m) [] h k = refl
all_pieces zero (suc m) (b ∷ bs) h k = absurd (omega arith)
all_pieces (suc n) zero (b ∷ bs) h k = absurd (omega arith)
all_pieces (suc n) (suc m) (b ∷ bs) h k =
    let less = first_shorter b bs in
    ap (λ ps. (first_piece (b ∷ bs)).0 ∷ ps) (all_pieces n m (first_piece (b ∷ bs)).1 (omega arith) (omega arith))

pub next_piece : (b : ℕ) (bs : List ℕ) → pieces (b ∷ bs) ≡ (first_piece (b ∷ bs)).0 ∷ pieces (first_piece (b ∷ bs)).1
next_piece b bs =
    let less = first_shorter b bs in
    ap (λ ps. (first_piece (b ∷ bs)).0 ∷ ps)
    (all_pieces (length bs) (length (first_piece (b ∷ bs)).1) (first_piece (b ∷ bs)).1 less (omega arith))

-- one turn over the text
pub turn : (rest text : List ℕ) (whole done new : List Piece) (p : Piece) → text ≢ [] → (p, rest) ≡ first_piece text
    → new ≡ done ++ p ∷ [] → done ++ pieces text ≡ whole → new ++ pieces rest ≡ whole
turn rest [] whole done new p more is grown held = absurd (more refl)
turn rest (b ∷ bs) whole done new p more is grown held =
    ap (λ l. l ++ pieces rest) grown ∙ append_assoc done (p ∷ []) (pieces rest)
    ∙ ap (λ t. done ++ (t.0 ∷ pieces t.1)) is
    ∙ ap (λ l. done ++ l) (sym (next_piece b bs)) ∙ held
