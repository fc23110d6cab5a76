-- How the parts of a name are read, part by part.
use Rattle.std.proofs.Common.{◌≡◌, ℕ, Bool, true, false, cond, List, [], ◌∷◌, ◌++◌, Option, None, Some, Result, Ok, Err, codes}
use Rattle.std.proofs.Common.{refl, sym, ap, subst, ◌∙◌, append_assoc}
use Rattle.std.specs.Prelude.{IfSome, bytes_eq}
use Rattle.std.proofs.lemmas.List.{append-nil}
use Rattle.liquid_error.specs.meaning.Refusal.{Refusal, ok_then}
use Rattle.liquid_parser.specs.meaning.Cursors.{expect_filter_chain, expect_str}
use Rattle.liquid_parser.specs.meaning.Handed.{Token, Tokens, first_of, or_unexpected}
use Rattle.liquid_parser.specs.meaning.Lang.{Filters}
use Rattle.liquid_parser.proofs.StepLemmas.{then_refused}
use Rattle.liquid_plugins.specs.meaning.Chain.{ChainShape}
use Rattle.liquid_tags.specs.meaning.Asked.{next_as}
use Rattle.jekyll_tags.specs.meaning.Given.{comes_next, parts_from, parts_given}

-- the next token is this text, or not
pub next_is : (word : List ℕ) (left : List Token) (given : Token × Tokens) (text : List ℕ) → first_of left ≡ Some given
    → text ≡ given.0.text → bytes_eq text word ≡ comes_next word left
next_is word [] given text e same = absurd (cc)
next_is word (t ∷ ts) given text e same =
    let first : t ≡ given.0 = ap (λ o. elim o as (λ _. Token) [ None ↦ t | Some g ↦ g.0 ]) e in
    ap (λ x. bytes_eq x word) (same ∙ ap (λ (u : Token). u.text) (sym first))

pub none_next : (word : List ℕ) (left : List Token) → first_of left ≡ None → false ≡ comes_next word left
none_next word [] e = refl
none_next word (t ∷ ts) e = absurd (cc)

module _ {F : Type 0} (filters : Filters F) where
  abbrev Named : Type 0
  Named = List (ChainShape F) × Tokens

  -- the parts that were read, and those that the tokens after them make
  abbrev pub read_on : List (ChainShape F) → Tokens → Result Named Refusal
  read_on done ts = ok_then (parts_from filters ts.following ts.left) (λ p. Ok (done ++ p.0, p.1))

  -- what goes on after a part
  abbrev after_part : ChainShape F × Tokens → Result Named Refusal
  after_part g = ok_then (parts_from filters g.1.following g.1.left) (λ p. Ok (g.0 ∷ p.0, p.1))

  by_chain : (t : Token) (more : List Token) (r : Result (ChainShape F) Refusal)
      → ok_then r (λ c. ok_then (parts_from filters t.following more) (λ p. Ok (c ∷ p.0, p.1)))
      ≡ ok_then (ok_then r (λ c. Ok (c, record { following = t.following; left = more }))) after_part
  by_chain t more (Ok c) = refl
  by_chain t more (Err refusal) = refl

  part_on : (ts : Tokens) → comes_next (codes ">") ts.left ≡ false
      → parts_from filters ts.following ts.left ≡ ok_then (next_as (expect_filter_chain filters) ts) after_part
  part_on ts = go ts.left
    where
      go : (left : List Token) → comes_next (codes ">") left ≡ false → parts_from filters ts.following left
          ≡ ok_then (next_as (expect_filter_chain filters) (record { following = ts.following; left = left })) after_part
      go [] e = refl
      go (t ∷ more) e =
          ap (λ b. cond b (Ok ([], record { following = t.following; left = more }))
          (ok_then (or_unexpected t (expect_filter_chain filters t)) (λ c. ok_then (parts_from filters t.following more)
          (λ p. Ok (c ∷ p.0, p.1))))) e
          ∙ by_chain t more (or_unexpected t (expect_filter_chain filters t))

  close_on : (ts : Tokens) → comes_next (codes ">") ts.left ≡ true → (u : Unit {0}) (rest : Tokens)
      → next_as (expect_str (codes ">")) ts ≡ Ok (u, rest) → parts_from filters ts.following ts.left ≡ Ok ([], rest)
  close_on ts = go ts.left
    where
      go : (left : List Token) → comes_next (codes ">") left ≡ true → (u : Unit {0}) (rest : Tokens)
          → next_as (expect_str (codes ">")) (record { following = ts.following; left = left }) ≡ Ok (u, rest)
          → parts_from filters ts.following left ≡ Ok ([], rest)
      go [] e u rest read = absurd (cc)
      go (t ∷ more) e u rest read =
          let opened : next_as (expect_str (codes ">")) (record { following = ts.following; left = t ∷ more })
          ≡ Ok (tt, record { following = t.following; left = more }) =
          ap (λ b. ok_then (or_unexpected t (cond b (Some tt) None)) (λ x. Ok (x, record { following = t.following; left = more }))) e in
          let same : Ok (tt, record { following = t.following; left = more }) ≡ Ok (u, rest) = sym opened ∙ read in
          let after : record { following = t.following; left = more } ≡ rest =
          ap (λ r. elim r as (λ _. Tokens) [ Ok g ↦ g.1 | Err x ↦ rest ]) same in
          ap (λ b. cond b (Ok ([], record { following = t.following; left = more }))
          (ok_then (or_unexpected t (expect_filter_chain filters t)) (λ c. ok_then (parts_from filters t.following more)
          (λ p. Ok (c ∷ p.0, p.1))))) e
          ∙ ap (λ r. Ok ([], r)) after

  abbrev paired : Tokens → List (ChainShape F) → Result Named Refusal
  paired rest cs = Ok (cs, rest)

  abbrev put_before : List (ChainShape F) → Named → Result Named Refusal
  put_before done p = Ok (done ++ p.0, p.1)

  joined : (done : List (ChainShape F)) (c : ChainShape F) (r : Result Named Refusal)
      → ok_then (ok_then r (put_before (c ∷ []))) (put_before done) ≡ ok_then r (put_before (done ++ c ∷ []))
  joined done c (Ok p) = ap (paired p.1) (sym (append_assoc done (c ∷ []) p.0))
  joined done c (Err refusal) = refl

  pub nothing_read : (ts : Tokens) → parts_from filters ts.following ts.left ≡ read_on [] ts
  nothing_read ts = go (parts_from filters ts.following ts.left)
    where
      go : (r : Result Named Refusal) → r ≡ ok_then r (λ (p : Named). Ok ([] ++ p.0, p.1))
      go (Ok p) = refl
      go (Err refusal) = refl

  module _ (done : List (ChainShape F)) (ts : Tokens) (meant : Result Named Refusal) (so_far : meant ≡ read_on done ts) where
    module _ (goes_on : comes_next (codes ">") ts.left ≡ false) where
      parted : meant ≡ ok_then (ok_then (next_as (expect_filter_chain filters) ts) after_part) (put_before done)
      parted = so_far ∙ ap (λ r. ok_then r (put_before done)) (part_on ts goes_on)

      -- one part more is read, or refused
      pub part_read : (after : List (ChainShape F)) (c : ChainShape F) (rest : Tokens)
          → next_as (expect_filter_chain filters) ts ≡ Ok (c, rest) → after ≡ done ++ c ∷ [] → meant ≡ read_on after rest
      part_read after c rest read pushed =
          parted ∙ ap (λ r. ok_then (ok_then r after_part) (put_before done)) read
          ∙ joined done c (parts_from filters rest.following rest.left) ∙ ap (λ cs. read_on cs rest) (sym pushed)

      pub part_refused : (o : Option Refusal) → IfSome o (λ r. next_as (expect_filter_chain filters) ts ≡ Err r)
          → IfSome o (λ r. meant ≡ Err r)
      part_refused o refused =
          subst (λ q. IfSome o (λ r. q ≡ Err r)) (sym parted)
          (then_refused o (ok_then (next_as (expect_filter_chain filters) ts) after_part) (put_before done)
          (then_refused o (next_as (expect_filter_chain filters) ts) after_part refused))

    pub parts_end : comes_next (codes ">") ts.left ≡ true → (u : Unit {0}) (rest : Tokens)
        → next_as (expect_str (codes ">")) ts ≡ Ok (u, rest) → meant ≡ Ok (done, rest)
    parts_end ends u rest read =
        so_far ∙ ap (λ r. ok_then r (put_before done)) (close_on ts ends u rest read) ∙ ap (paired rest) (append-nil done)

    -- the end is missing, or is something else
    pub end_refused : comes_next (codes ">") ts.left ≡ true → (o : Option Refusal)
        → IfSome o (λ r. next_as (expect_str (codes ">")) ts ≡ Err r) → IfSome o (λ r. meant ≡ Err r)
    end_refused ends None refused = refused
    end_refused ends (Some r) refused = absurd (never (ts.left) ends r refused)
      where
        never : (left : List Token) → comes_next (codes ">") left ≡ true → (r : Refusal)
            → next_as (expect_str (codes ">")) (record { following = ts.following; left = left }) ≡ Err r → ⊥
        never [] e r h = cc
        never (t ∷ more) e r h =
            let opened : next_as (expect_str (codes ">")) (record { following = ts.following; left = t ∷ more })
            ≡ Ok (tt, record { following = t.following; left = more }) =
            ap (λ b. ok_then (or_unexpected t (cond b (Some tt) None)) (λ x. Ok (x, record { following = t.following; left = more }))) e in
            let both : Ok (tt, record { following = t.following; left = more }) ≡ Err r = sym opened ∙ h in cc

  -- a name between `<` and `>`, and one that is a chain
  pub given_enclosed : (ts : Tokens) → comes_next (codes "<") ts.left ≡ true → (u : Unit {0}) (rest : Tokens)
      → next_as (expect_str (codes "<")) ts ≡ Ok (u, rest) → parts_given filters ts ≡ parts_from filters rest.following rest.left
  given_enclosed ts e u rest read =
      ap (λ b. cond b (ok_then (next_as (expect_str (codes "<")) ts) (λ w. parts_from filters w.1.following w.1.left))
      (ok_then (next_as (expect_filter_chain filters) ts) (λ c. paired c.1 (c.0 ∷ [])))) e
      ∙ ap (λ r. ok_then r (λ w. parts_from filters w.1.following w.1.left)) read

  pub given_one : (ts : Tokens) → comes_next (codes "<") ts.left ≡ false → (c : ChainShape F) (rest : Tokens)
      → next_as (expect_filter_chain filters) ts ≡ Ok (c, rest) → (cs : List (ChainShape F)) → cs ≡ c ∷ []
      → parts_given filters ts ≡ Ok (cs, rest)
  given_one ts e c rest read cs same =
      ap (λ b. cond b (ok_then (next_as (expect_str (codes "<")) ts) (λ w. parts_from filters w.1.following w.1.left))
      (ok_then (next_as (expect_filter_chain filters) ts) (λ d. paired d.1 (d.0 ∷ [])))) e
      ∙ ap (λ r. ok_then r (λ d. paired d.1 (d.0 ∷ []))) read ∙ ap (paired rest) (sym same)
