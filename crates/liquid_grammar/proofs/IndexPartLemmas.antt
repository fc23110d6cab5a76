-- What the next index is, by the readers that found its beginning.
use Rattle.std.proofs.Common.{◌≡◌, ℕ, true, false, ◌==◌, List, ◌∷◌, Some, None, option_map, refl, sym, ap, ◌∙◌, subst}
use Rattle.std.proofs.lemmas.Bool.{eqb-true}
use Rattle.liquid_grammar.specs.meaning.Bytes.{is_white}
use Rattle.liquid_grammar.specs.meaning.Grammar.{White, Identifier}
use Rattle.liquid_grammar.specs.meaning.Rules.{Rule, Begins, One, Seen, At, Byte, ◌▷◌, here, instead, Repeated, ends, more}
use Rattle.liquid_grammar.specs.meaning.Values.{
  Value,
  Index,
  named_index,
  bracketed_index,
  placed_bracket,
  Bracketed,
  OpenBracket,
  CloseBracket,
  ValueRule,
  IndexRule,
}
use Rattle.liquid_grammar.specs.meaning.Parts.{NoneLeft, First, IsNamed, IsBracketed}
use Rattle.liquid_grammar.specs.steps.TokenSteps.{named, open_bracket}
use Rattle.liquid_grammar.proofs.Exact.{Exact, exact-seen, same_match, none_begins}
use Rattle.liquid_grammar.specs.meaning.Faults.{index_fault}
use Rattle.liquid_grammar.specs.meaning.Meanings.{Scanned, scan}
use Rattle.liquid_grammar.specs.steps.BracketSteps.{bracket_index}
use Rattle.liquid_grammar.proofs.ValueScan.{scan_some, scan_none}
use Rattle.liquid_grammar.proofs.ExactRepeated.{exact-at}
use Rattle.liquid_grammar.proofs.TokenExact.{exact-bracketed, exact-value, exact-index, exact-named, exact-open_bracket}
use Rattle.liquid_grammar.proofs.FlatBrackets.{left_some, left_none}
use Rattle.liquid_grammar.proofs.PartLemmas.{first_part}

pub named_first : (s after name rest : List ℕ) (is : List Index) → Some (name, after) ≡ named s → Repeated IndexRule s rest is
    → First (λ end i. IsNamed end name after i) (Repeated IndexRule) rest is
named_first s after name rest is e ms =
    let m : IndexRule s after (named_index name) =
    here (record { from = name; match = exact-named.sound s after name (sym e); is = refl }) in
    first_part (exact-index exact-value) (λ end i. IsNamed end name after i) s after rest (named_index name) is m
    (record { is = refl; ends = refl }) ms

-- some index is left where one begins
pub some_left : {A : Type 0} {R : Rule A} (s rest : List ℕ) (parts : List A) → Begins R s → Repeated R s rest parts
    → ¬ (NoneLeft s rest parts)
some_left s rest parts b (ends none) left = none b
some_left s rest parts b (more m ms) left = let e = left.none in cc

pub same_byte : (s r t : List ℕ) (a b : ℕ) → s ≡ a ∷ r → s ≡ b ∷ t → a ≡ b
same_byte s r t a b e f = cc

-- no close bracket begins with any other byte
closes_by : (s t : List ℕ) (b : ℕ) → s ≡ b ∷ t → is_white b ≡ false → (b == 93) ≡ false → Begins CloseBracket s → ⊥
closes_by s t b e black other c = go s c.match.match.middle c.rest c.match.from.0 c.match.from.1 e c.match.match.before c.match.match.after
  where
    go : (s middle rest : List ℕ) (white : List ℕ) (byte : ℕ) → s ≡ b ∷ t → White s middle white → One (λ x. x == 93) middle rest byte → ⊥
    go s middle rest white byte e (ends none) close = let h : (b == 93) ≡ true =
        subst (λ x. (x == 93) ≡ true) (same_byte s _ _ byte b close.front e) close.passes in cc (h, other)
    go s middle rest white byte e (more {shape = w} m ms) close = let h : is_white b ≡ true =
        subst (λ x. is_white x ≡ true) (same_byte s _ _ w b m.front e) m.passes in cc (h, black)

-- an open bracket is not a close bracket
pub open_or_close : (s : List ℕ) → Begins OpenBracket s → Begins CloseBracket s → ⊥
open_or_close s o c =
    let first = o.match.match.before in
    closes_by s o.match.match.middle 91 (first.front ∙ ap (λ b. b ∷ o.match.match.middle) (eqb-true _ 91 first.passes)) refl refl c

-- no index begins where a close bracket begins
pub close_or_index : (s : List ℕ) → Begins CloseBracket s → ¬ (Begins IndexRule s)
close_or_index s c b = go b.match
  where
    go : IndexRule s b.rest b.shape → ⊥
    go (here m) =
        let first = m.match.match.before in
        closes_by s m.match.match.middle 46 (first.front ∙ ap (λ x. x ∷ m.match.match.middle) (eqb-true _ 46 first.passes)) refl refl c
    go (instead unmatched m) =
        let opened = m.match.match.match.before.match in
        open_or_close s (record { rest = opened.middle; shape = _; match = opened.before }) c

bracket_is : (p b s rest : List ℕ) (v w : Value) → p ≡ s → b ≡ rest → v ≡ w → bracketed_index p b v ≡ bracketed_index s rest w
bracket_is p b s rest v w e f g = cc

-- the parts of an index in brackets
bracket_parts : (s rest inner : List ℕ) (i : Index) → None ≡ named s → Some inner ≡ option_map (λ p. p.1) (open_bracket s)
    → IndexRule s rest i → IsBracketed s rest inner i
bracket_parts s rest inner i none e (here m) =
    absurd (none_begins exact-named s (sym none) (record { rest = rest; shape = m.from; match = m.match }))
bracket_parts s rest inner i none e (instead unmatched m) =
    let x = left_some (open_bracket s) inner e in
    let whole = m.match.match in
    let opened = whole.match.before.match in
    let same = same_match exact-open_bracket s opened.middle x.0.1 whole.match.before.from.0 x.0.0 opened.before
    (exact-open_bracket.sound s x.0.1 x.0.0 x.1) in
    let what : m.from.what ≡ whole.match.before.from.1 = whole.is ∙ whole.match.before.is in
    record {
      value = whole.match.before.from.1;
      following = whole.match.middle;
      byte = whole.from.1;
      is = m.is ∙ bracket_is m.from.place m.from.following s rest m.from.what whole.match.before.from.1 m.match.begins m.match.ends what;
      match = subst (λ t. ValueRule t whole.match.middle whole.match.before.from.1)
          (ap (λ (p : List ℕ × List ℕ). p.1) same ∙ x.2) opened.after;
      closes = whole.match.after;
    }

pub bracket_first : (s rest inner : List ℕ) (is : List Index) → None ≡ named s → Some inner ≡ option_map (λ p. p.1) (open_bracket s)
    → ¬ (NoneLeft s rest is) → Repeated IndexRule s rest is
    → First (λ end i. IsBracketed s end inner i) (Repeated IndexRule) rest is
bracket_first s rest inner is none e some (ends unmatched) = absurd (some (record { none = refl; ends = refl }))
bracket_first s rest inner is none e some (more {middle = middle} {shape = i} {shapes = others} m ms) =
    record { part = i; others = others; middle = middle; joined = refl; found = bracket_parts s middle inner i none e m; then = ms }

-- an index begins where brackets are matched
pub bracket_begins : (s : List ℕ) → None ≡ named s → Begins (Seen placed_bracket (At (Bracketed ValueRule))) s → Begins IndexRule s
bracket_begins s none b =
    record {
      rest = b.rest;
      shape = b.shape;
      match = instead (λ (n : Begins (Seen named_index (Byte 46 ▷ Identifier)) s). none_begins exact-named s (sym none)
          (record { rest = n.rest; shape = n.match.from; match = n.match.match })) b.match;
    }

-- inside brackets an index is left if no bracket closes them
pub inside_left : (s rest inner : List ℕ) (is : List Index) → Some inner ≡ option_map (λ p. p.1) (open_bracket s)
    → Begins CloseBracket rest → ¬ (NoneLeft s rest is)
inside_left s rest inner is e close left =
    let x = left_some (open_bracket s) inner e in
    open_or_close s (record { rest = x.0.1; shape = x.0.0; match = exact-open_bracket.sound s x.0.1 x.0.0 x.1 })
    (subst (λ t. Begins CloseBracket t) left.ends close)

-- no index begins without a name and without an open bracket
pub no_index : (s : List ℕ) → None ≡ named s → None ≡ option_map (λ p. p.1) (open_bracket s) → ¬ (Begins IndexRule s)
no_index s none e b = go b.match
  where
    go : IndexRule s b.rest b.shape → ⊥
    go (here m) = none_begins exact-named s (sym none) (record { rest = b.rest; shape = m.from; match = m.match })
    go (instead unmatched m) =
        let opened = m.match.match.match.before.match in
        none_begins exact-open_bracket s (left_none (open_bracket s) e) (record { rest = opened.middle; shape = _; match = opened.before })

-- and none where brackets are not matched
pub no_brackets : (s : List ℕ) → None ≡ named s → ¬ (Begins (Seen placed_bracket (At (Bracketed ValueRule))) s) → ¬ (Begins IndexRule s)
no_brackets s none unmatched b = go b.match
  where
    go : IndexRule s b.rest b.shape → ⊥
    go (here m) = none_begins exact-named s (sym none) (record { rest = b.rest; shape = m.from; match = m.match })
    go (instead _ m) = unmatched (record { rest = b.rest; shape = b.shape; match = m })

exact-bracket_index : Exact bracket_index (Seen placed_bracket (At (Bracketed ValueRule)))
exact-bracket_index = exact-seen placed_bracket (exact-at (exact-bracketed exact-value))

-- what the match of brackets says
pub index_begins : (s : List ℕ) (g : Scanned) → None ≡ named s → Some g ≡ scan (index_fault 0) (bracket_index s) → Begins IndexRule s
index_begins s g none e =
    let x = scan_some (index_fault 0) (bracket_index s) g.0 g.1 e in
    bracket_begins s none (record { rest = x.0.1; shape = x.0.0; match = exact-bracket_index.sound s x.0.1 x.0.0 x.1 })

pub unmatched_brackets : (s : List ℕ) → None ≡ named s → None ≡ scan (index_fault 0) (bracket_index s) → ¬ (Begins IndexRule s)
unmatched_brackets s none e = no_brackets s none (none_begins exact-bracket_index s (scan_none (index_fault 0) (bracket_index s) e))
