-- Pieces, joined, are the text, and a text without tags that take a name is itself.
use Rattle.std.proofs.Common.{
  ◌≡◌,
  ℕ,
  zero,
  suc,
  ◌+◌,
  ◌-◌,
  ◌<◌,
  ◌≤◌,
  Bool,
  true,
  false,
  cond,
  ◌==◌,
  ◌&&◌,
  List,
  [],
  ◌∷◌,
  ◌++◌,
  Option,
  Some,
  None,
  length,
  take,
  drop,
  codes,
  refl,
  sym,
  ap,
  ◌∙◌,
  arith,
  append_assoc,
  append-nil,
  take-append-drop,
  eqb-true,
}
use Rattle.std.specs.List.{All}
use Rattle.std.specs.Option.{option_map, option_map_or}
use Rattle.std.specs.Str.{byte, bytes_eq}
use Rattle.memchr.specs.Find.{OccursAt, first_of, matches}
use Rattle.jekyll_source.specs.laws.Untouched.{LeavesNothingOut, TakesNoName}
use Rattle.jekyll_source.specs.meaning.Bodies.{body_len, split_body}
use Rattle.jekyll_source.specs.meaning.Blank.{
  Marked,
  blank_ends,
  innermost,
  is_end,
  is_start,
  mark,
  marked,
  name_of,
  open_after,
  taken_white,
  without_first,
  written,
  written_in,
}
use Rattle.jekyll_source.specs.meaning.Piece.{Piece, plain, value, tag, bytes_of}
use Rattle.jekyll_source.specs.meaning.Pieces.{
  Taken,
  first_piece,
  joined,
  jekyll_text,
  pieces,
  pieces_in,
  plain_len,
  plain_taken,
  tag_or_plain,
  tag_taken,
  value_or_plain,
  value_taken,
  whole_value,
}
use Rattle.jekyll_source.specs.meaning.Rewriting.{begins_name, new_body, rewritten, takes_name}
use Rattle.jekyll_source.specs.meaning.Splits.{Parts, after_opener, split_around, split_at}
use Rattle.jekyll_source.specs.meaning.Tags.{fitted, named, tag_of}
use Rattle.jekyll_source.proofs.PieceLemmas.{first_shorter}
use Rattle.jekyll_source.proofs.RewritingLemmas.{no_name}
use Rattle.memchr.proofs.lemmas.MatchLemmas.{OccursAt-split}
use Rattle.std.proofs.lemmas.List.Elements.{All-cons, All-head, All-nil, All-tail}
use Rattle.liquid_strings.proofs.PlaceLemmas.{first_match}

-- a piece without a name to rewrite is written as it is where no whitespace is left out
as_it_is : (p : Piece) → TakesNoName p → written false [] p ≡ bytes_of p
as_it_is (plain text) none = refl
as_it_is (value inner) none = refl
as_it_is (tag inner body) none =
    let name = (tag_of inner).name in
    let said = (tag_of inner).body in
    let nothing : None ≡ new_body name said = no_name name said (ap (λ t. t && begins_name said) none) in
    ap (λ o. codes "{%" ++ (option_map_or (λ new. fitted (tag_of inner) new) o inner ++ (codes "%}" ++ body))) (sym nothing)

-- blocks of none of which the whitespace is left out
abbrev Writing : List Bool → Type 0
Writing blocks = All (λ b. b ≡ false) blocks

innermost_writes : (blocks : List Bool) → Writing blocks → innermost blocks ≡ false
innermost_writes [] all = refl
innermost_writes (b ∷ bs) all = All-head (λ x. x ≡ false) b bs all

fewer_write : (blocks : List Bool) → Writing blocks → Writing (without_first blocks)
fewer_write [] all = all
fewer_write (b ∷ bs) all = All-tail (λ x. x ≡ false) b bs all

still_writing : (m : Marked) (blocks : List Bool) → LeavesNothingOut m → Writing blocks → Writing (open_after m blocks)
still_writing m blocks none all = go (is_end (name_of m.0)) (is_start (name_of m.0))
  where
    go : (t u : Bool) → Writing (cond t (without_first blocks) (cond u (m.1 ∷ blocks) blocks))
    go true u = fewer_write blocks all
    go false true = All-cons (λ b. b ≡ false) m.1 blocks none all
    go false false = all

takes_nothing : (ms : List Marked) → taken_white false ms ≡ []
takes_nothing [] = refl
takes_nothing (m ∷ ms) = refl

written_as_is : (blocks : List Bool) (ps : List Piece) → Writing blocks → All TakesNoName ps → All LeavesNothingOut (marked ps)
    → written_in blocks (marked ps) ≡ joined ps
written_as_is blocks [] writing none out = refl
written_as_is blocks (p ∷ ps) writing none out =
    let m = mark p (blank_ends ps) in
    let after = still_writing m blocks (All-head LeavesNothingOut m (marked ps) out) writing in
    let here = innermost_writes blocks writing in
    let there = innermost_writes (open_after m blocks) after in
    ap (λ b. written b (taken_white (innermost (open_after m blocks)) (marked ps)) p ++ written_in (open_after m blocks) (marked ps)) here
    ∙ ap (λ b. written false (taken_white b (marked ps)) p ++ written_in (open_after m blocks) (marked ps)) there
    ∙ ap (λ w. written false w p ++ written_in (open_after m blocks) (marked ps)) (takes_nothing (marked ps))
    ∙ ap (λ l. l ++ written_in (open_after m blocks) (marked ps)) (as_it_is p (All-head TakesNoName p ps none))
    ∙ ap (λ l. bytes_of p ++ l)
    (written_as_is (open_after m blocks) ps after (All-tail TakesNoName p ps none) (All-tail LeavesNothingOut m (marked ps) out))

-- an opener is what it is taken for
opener_is : (kind : ℕ) (text rest : List ℕ) → after_opener kind text ≡ Some rest → text ≡ byte "{" ∷ kind ∷ rest
opener_is kind [] rest e = absurd (cc)
opener_is kind (a ∷ []) rest e = absurd (cc)
opener_is kind (a ∷ b ∷ bs) rest e = go (a == byte "{") (b == kind) refl refl e
  where
    go : (t u : Bool) → (a == byte "{") ≡ t → (b == kind) ≡ u → cond (t && u) (Some bs) None ≡ Some rest
        → a ∷ b ∷ bs ≡ byte "{" ∷ kind ∷ rest
    go true true p q h =
        let first : a ≡ byte "{" = eqb-true a (byte "{") p in
        let second : b ≡ kind = eqb-true b kind q in
        let same : bs ≡ rest = cc in ap (λ x. x ∷ b ∷ bs) first ∙ ap (λ x. byte "{" ∷ x ∷ bs) second ∙ ap (λ x. byte "{" ∷ kind ∷ x) same
    go true false p q h = absurd (cc)
    go false u p q h = absurd (cc)

head_is : (xs : List ℕ) (at : ℕ) → first_of xs ≡ Some at → (rest : List ℕ) × (xs ≡ at ∷ rest)
unfolding first_of
head_is [] at e = absurd (cc)
head_is (x ∷ xs) at e = let same : x ≡ at = cc in (xs, ap (λ y. y ∷ xs) same)

-- a text is what is before the first place, what is there, and what is after it
around_is : (search text : List ℕ) → 0 < length search → (at : ℕ) → first_of (matches text search 0) ≡ Some at
    → take at text ++ (search ++ drop (at + length search) text) ≡ text
around_is search text more at found =
    let head = head_is (matches text search 0) at found in
    let first = first_match text search more 0 at head.0 (omega arith) head.1 in
    ap (λ l. take at text ++ l) (sym (OccursAt-split text search at first.occurs)) ∙ take-append-drop at text

split_joined : (n : ℕ) (text : List ℕ) → (split_at n text).0 ++ (split_at n text).1 ≡ text
split_joined n text = take-append-drop n text

body_joined : (name text : List ℕ) → (split_body name text).0 ++ (split_body name text).1 ≡ text
body_joined name text = go (bytes_eq name (codes "raw")) (bytes_eq name (codes "comment"))
  where
    go : (t u : Bool) → (let p : Parts = cond t (split_at (body_len None (codes "endraw") 0 text) text)
        (cond u (split_at (body_len (Some (codes "comment")) (codes "endcomment") 0 text) text) (split_at 0 text)) in p.0 ++ p.1 ≡ text)
    go true u = split_joined (body_len None (codes "endraw") 0 text) text
    go false true = split_joined (body_len (Some (codes "comment")) (codes "endcomment") 0 text) text
    go false false = split_joined 0 text

tag_joined : (text rest : List ℕ) → text ≡ codes "{%" ++ rest
    → bytes_of (tag_or_plain text rest).0 ++ (tag_or_plain text rest).1 ≡ text
tag_joined text rest is = go (first_of (matches rest (codes "%}") 0)) refl
  where
    go : (r : Option ℕ) → first_of (matches rest (codes "%}") 0) ≡ r
        → (let t : Taken = option_map_or tag_taken (option_map (λ at. (take at rest, drop (at + length (codes "%}")) rest)) r)
        (plain text, []) in
        bytes_of t.0 ++ t.1 ≡ text)
    go None e = append-nil text
    go (Some at) e =
        let inner = take at rest in
        let after = drop (at + length (codes "%}")) rest in
        let body = split_body (named inner).0 after in
        simp append_assoc (ap (λ l. codes "{%" ++ (inner ++ (codes "%}" ++ l))) (body_joined (named inner).0 after)
        ∙ ap (λ l. codes "{%" ++ l) (around_is (codes "%}") rest (omega arith) at e) ∙ sym is)

value_joined : (text rest : List ℕ) → text ≡ codes "{{" ++ rest
    → bytes_of (whole_value text rest).0 ++ (whole_value text rest).1 ≡ text
value_joined text rest is = go (first_of (matches rest (codes "}}") 0)) refl
  where
    go : (r : Option ℕ) → first_of (matches rest (codes "}}") 0) ≡ r
        → (let t : Taken = option_map_or value_taken (option_map (λ at. (take at rest, drop (at + length (codes "}}")) rest)) r)
        (plain text, []) in
        bytes_of t.0 ++ t.1 ≡ text)
    go None e = append-nil text
    go (Some at) e =
        let inner = take at rest in
        let after = drop (at + length (codes "}}")) rest in
        simp append_assoc (ap (λ l. codes "{{" ++ l) (around_is (codes "}}") rest (omega arith) at e) ∙ sym is)

first_joined : (text : List ℕ) → bytes_of (first_piece text).0 ++ (first_piece text).1 ≡ text
first_joined text = tagged (after_opener (byte "%") text) refl
  where
    valued : (o : Option (List ℕ)) → after_opener (byte "{") text ≡ o
        → (let t : Taken = option_map_or (λ rest. whole_value text rest) o (plain_taken (split_at (plain_len text) text)) in bytes_of t.0
        ++ t.1 ≡ text)
    valued None e = split_joined (plain_len text) text
    valued (Some rest) e = value_joined text rest (opener_is (byte "{") text rest e)

    tagged : (o : Option (List ℕ)) → after_opener (byte "%") text ≡ o
        → (let t : Taken = option_map_or (λ rest. tag_or_plain text rest) o (value_or_plain text) in bytes_of t.0 ++ t.1 ≡ text)
    tagged None e = valued (after_opener (byte "{") text) refl
    tagged (Some rest) e = tag_joined text rest (opener_is (byte "%") text rest e)

joined_in : (n : ℕ) (text : List ℕ) → length text ≤ n → joined (pieces_in n text) ≡ text
joined_in zero [] h = refl
joined_in zero (b ∷ bs) h = absurd (omega arith)
joined_in (suc n) [] h = refl
joined_in (suc n) (b ∷ bs) h =
    let less = first_shorter b bs in
    ap (λ l. bytes_of (first_piece (b ∷ bs)).0 ++ l) (joined_in n (first_piece (b ∷ bs)).1 (omega arith)) ∙ first_joined (b ∷ bs)

pub pieces_joined : (text : List ℕ) → joined (pieces text) ≡ text
pieces_joined text = joined_in (length text) text (omega arith)

pub untouched : (text : List ℕ) → All TakesNoName (pieces text) → All LeavesNothingOut (marked (pieces text)) → jekyll_text text ≡ text
untouched text none out = written_as_is [] (pieces text) (All-nil (λ b. b ≡ false)) none out ∙ pieces_joined text
