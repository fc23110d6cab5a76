-- What the parts of a matched text are, by the readers that found their beginnings.
use Rattle.std.proofs.Common.{
  ◌≡◌,
  ℕ,
  List,
  ◌++◌,
  Option,
  Some,
  None,
  option_map,
  option_and_then,
  MatchOption,
  Bor,
  refl,
  sym,
  ap,
  ◌∙◌,
  subst,
}
use Rattle.liquid_grammar.specs.declared.head.Head.{Head}
use Rattle.liquid_grammar.specs.declared.head.Head.TheVariants as head
use Rattle.liquid_grammar.specs.steps.Heads.{literal_in, name_in}
use Rattle.liquid_grammar.specs.meaning.Rules.{Rule, Begins, Seen, At, here, instead, Repeated, ends, more, ◌▷◌}
use Rattle.liquid_grammar.specs.meaning.Literals.{LiteralRule}
use Rattle.liquid_grammar.specs.meaning.Values.{
  Value,
  literal_value,
  variable_value,
  placed_literal,
  gather,
  ValueOver,
  ValueRule,
  IndexRule,
}
use Rattle.liquid_grammar.specs.meaning.Faults.{value_fault}
use Rattle.liquid_grammar.specs.meaning.Meanings.{literal_of}
use Rattle.liquid_grammar.specs.meaning.Grammar.{White}
use Rattle.liquid_grammar.specs.meaning.Tokens.{Chain, Tag, ChainRule, TokenRule, ExpressionRule, TagRule}
use Rattle.liquid_grammar.specs.meaning.Parts.{NoneLeft, First, IsHead, HasHead, IsChain}
use Rattle.liquid_grammar.specs.steps.Steps.{Reader, name, identifier}
use Rattle.liquid_grammar.specs.steps.TokenSteps.{literal, value, index_over}
use Rattle.liquid_grammar.proofs.Exact.{Exact, same_match, none_begins}
use Rattle.liquid_grammar.proofs.ExactRepeated.{repeated_total}
use Rattle.liquid_grammar.proofs.FlatBrackets.{left_some, left_none}
use Rattle.liquid_grammar.proofs.GrammarExact.{exact-name, exact-identifier}
use Rattle.liquid_grammar.proofs.TokenExact.{exact-literal, exact-value, exact-indexes}
use Rattle.liquid_grammar.proofs.ValueLaw.{value_law}
use Rattle.liquid_grammar.proofs.ValueScan.{scan_none, no_value_scan}

-- a repetition is over where no part begins
pub none_left : {A : Type 0} {R : Rule A} (s rest : List ℕ) (parts : List A) → Repeated R s rest parts → ¬ (Begins R s)
    → NoneLeft s rest parts
none_left s rest parts (ends none) unmatched = record { none = refl; ends = refl }
none_left s rest parts (more {middle = middle} {shape = part} m ms) unmatched =
    absurd (unmatched (record { rest = middle; shape = part; match = m }))

-- a repetition begins with the part that is matched
pub first_part : {A : Type 0} {f : Reader A} {R : Rule A} → Exact f R → (Part : List ℕ → A → Type 0) (s middle rest : List ℕ) (part : A)
    (parts : List A)
    → R s middle part → Part middle part → Repeated R s rest parts → First Part (Repeated R) rest parts
first_part F Part s middle rest part parts m found (ends none) = absurd (none (record { rest = middle; shape = part; match = m }))
first_part {A} F Part s middle rest part parts m found (more {middle = t} {shape = p} {shapes = ps} n ns) =
    let same = same_match F s middle t part p m n in
    record { part = p; others = ps; middle = t; joined = refl; found = subst (λ (x : A × List ℕ). Part x.1 x.0) same found; then = ns }

-- a value by its literal or name
has_head : (s : List ℕ) (h : Head) (after : Bor (List ℕ)) → literal_in (h, after) ≡ literal s → name_in (h, after) ≡ name s
    → HasHead s h after.now
has_head s (head.Literal l) after e f =
    let m : ValueOver ValueRule s after.now (literal_value s after.now (literal_of l)) = here (record {
      from = record { place = s; following = after.now; what = literal_of l };
      match = record { begins = refl; ends = refl; match = exact-literal.sound s after.now (literal_of l) (sym e) };
      is = refl;
    }) in
    record {
      rest = after.now;
      value = literal_value s after.now (literal_of l);
      match =
          (value_law s after.now (literal_value s after.now (literal_of l))).1 m;
      head = record { is = refl; ends = refl };
    }
has_head s (head.Name n) after e f =
    let all = repeated_total (index_over value) after.now in
    let rest = all.0.1 in
    let indexes = all.0.0 in
    let m : Repeated IndexRule after.now rest indexes = (exact-indexes exact-value).sound after.now rest indexes all.1 in
    let none = none_begins exact-literal s (sym e) in
    let v : Value = variable_value s rest n.now (gather indexes) in
    let over : ValueOver ValueRule s rest v =
    instead (λ (b : Begins (Seen placed_literal (At LiteralRule)) s). none
    (record { rest = b.rest; shape = b.match.from.what; match = b.match.match.match })) (record {
      from = record { place = s; following = rest; what = (n.now, indexes) };
      match = record {
        begins = refl;
        ends = refl;
        match =
            record { middle = after.now; before = exact-name.sound s after.now n.now (sym f); after = m };
      };
      is = refl;
    })
    in
    record { rest = rest; value = v; match = (value_law s rest v).1 over; head = record { indexes = indexes; is = refl; match = m } }

pub head_found : (s : List ℕ) (r : Option (Head × Bor (List ℕ))) → option_and_then literal_in r ≡ literal s
    → option_and_then name_in r ≡ name s → MatchOption r (¬ (Begins ValueRule s)) (λ p. HasHead s p.0 p.1.now)
head_found s None e f = none_begins exact-value s (scan_none value_fault (value s) (no_value_scan s e f))
head_found s (Some p) e f = has_head s p.0 p.1 e f

pub head_only : (s : List ℕ) (r : Option (Head × Bor (List ℕ))) → MatchOption r (¬ (Begins ValueRule s)) (λ p. HasHead s p.0 p.1.now)
    → (rest : List ℕ) (v : Value) → ValueRule s rest v → MatchOption r ⊥ (λ p. IsHead s rest p.0 p.1.now v)
head_only s None none rest v m = none (record { rest = rest; shape = v; match = m })
head_only s (Some p) has rest v m = subst (λ (x : Value × List ℕ). IsHead s x.1 p.0 p.1.now x.0)
    (same_match exact-value s has.rest rest has.value v has.match m) has.head

-- what a call found for a rule, by the reader's rest alone
pub rest_found : {A : Type 0} {f : Reader A} {R : Rule A} → Exact f R → (s : List ℕ) (r : Option (Bor (List ℕ)))
    → option_map (λ rest. rest.now) r ≡ option_map (λ p. p.1) (f s)
    → MatchOption r (¬ (Begins R s)) (λ rest. (a : A) × R s rest.now a)
rest_found {f = f} F s None e = none_begins F s (left_none (f s) e)
rest_found {f = f} {R = R} F s (Some rest) e =
    let x = left_some (f s) rest.now e in
    (x.0.0, subst (λ t. R s t x.0.0) x.2 (F.sound s x.0.1 x.0.0 x.1))

pub rest_only : {A : Type 0} {f : Reader A} {R : Rule A} → Exact f R → (s : List ℕ) (r : Option (Bor (List ℕ)))
    → option_map (λ rest. rest.now) r ≡ option_map (λ p. p.1) (f s)
    → (rest : List ℕ) (a : A) → R s rest a → MatchOption r ⊥ (λ after. after.now ≡ rest)
rest_only {f = f} F s None e rest a m = none_begins F s (left_none (f s) e) (record { rest = rest; shape = a; match = m })
rest_only {A} {f = f} F s (Some after) e rest a m =
    let x = left_some (f s) after.now e in
    sym x.2 ∙ ap (λ (p : A × List ℕ). p.1) (same_match F s x.0.1 rest x.0.0 a (F.sound s x.0.1 x.0.0 x.1) m)

-- an early return of None
pub returned_none : {A : Type 0} {P : Type 0} (r : Option A) (Q : A → Type 0) → r ≡ None → P → MatchOption r P Q
returned_none {P = P} r Q e p = subst (λ o. MatchOption o P Q) (sym e) p

-- what is after a match
pub after_begins : {A B : Type 0} {f : Reader B} {P : Rule B} {R : Rule A} → Exact f P → (s place rest : List ℕ) (a : A)
    → Some place ≡ option_map (λ p. p.1) (f s) → R place rest a → (P ▷ R) s rest a
after_begins {f = f} {P = P} F s place rest a e m =
    let x = left_some (f s) place e in
    record {
      from = (x.0.0, a);
      match = record {
        middle = place;
        before =
            subst (λ t. P s t x.0.0) x.2 (F.sound s x.0.1 x.0.0 x.1);
        after = m;
      };
      is = refl;
    }

pub none_before : {A B : Type 0} {f : Reader B} {P : Rule B} {R : Rule A} → Exact f P → (s : List ℕ) → None ≡ option_map (λ p. p.1) (f s)
    → ¬ (Begins (P ▷ R) s)
none_before {f = f} F s e b = none_begins F s (left_none (f s) e)
    (record { rest = b.match.match.middle; shape = b.match.from.0; match = b.match.match.before })

pub none_after : {A B : Type 0} {f : Reader B} {P : Rule B} {R : Rule A} → Exact f P → (s place : List ℕ)
    → Some place ≡ option_map (λ p. p.1) (f s) → ¬ (Begins R place) → ¬ (Begins (P ▷ R) s)
none_after {A} {B} {f = f} {R = R} F s place e none b =
    let x = left_some (f s) place e in
    let then = b.match.match in
    let same = same_match F s then.middle x.0.1 b.match.from.0 x.0.0 then.before (F.sound s x.0.1 x.0.0 x.1) in
    let moved : Begins R then.middle = record { rest = b.rest; shape = b.match.from.1; match = then.after } in
    none (subst (λ t. Begins R t) (ap (λ (p : B × List ℕ). p.1) same ∙ x.2) moved)

-- an identifier and what follows it are the text
pub identifier_joined : (s rest word : List ℕ) → Some (word, rest) ≡ identifier s → s ≡ word ++ rest
identifier_joined s rest word e = let m = exact-identifier.sound s rest word (sym e) in m.front

-- the parts of a match, at their places
pub chain_parts : (s rest : List ℕ) (chain : Chain) → ChainRule s rest chain → IsChain s rest chain
chain_parts s rest chain m = record {
  begins = m.begins;
  ends = m.ends;
  middle = m.match.middle;
  value = m.match.before;
  filters =
      m.match.after;
}

pub expression_chain : (s rest : List ℕ) (chain : Chain) → ExpressionRule s rest chain → ChainRule chain.place chain.following chain
expression_chain s rest chain m =
    let inside = m.match.before.match.before in
    let chain_match = inside.match.after in
    let what : chain ≡ inside.from.1 = m.is ∙ m.match.before.is ∙ inside.is in
    let at_place = subst (λ t. ChainRule t inside_end inside.from.1) (sym chain_match.begins) chain_match in
    subst (λ (c : Chain). ChainRule c.place c.following c) (sym what)
    (subst (λ t. ChainRule inside.from.1.place t inside.from.1) (sym chain_match.ends) at_place)
  where
    inside_end : List ℕ
    inside_end = m.match.before.match.middle

pub tag_tokens : (s rest : List ℕ) (tag : Tag) → TagRule s rest tag → Repeated (White ▷ TokenRule) tag.1.place tag.1.following tag.1.what
tag_tokens s rest tag m =
    let inside = m.match.before.match.before in
    let tokens = inside.after in
    let what : tag ≡ m.match.before.from.0 = m.is ∙ m.match.before.is in
    let moved = subst (λ t. Repeated (White ▷ TokenRule) t m.match.before.from.0.1.following m.match.before.from.0.1.what)
    (sym tokens.begins)
    (subst (λ t. Repeated (White ▷ TokenRule) inside.middle t m.match.before.from.0.1.what) (sym tokens.ends) tokens.match)
    in
    subst (λ (t : Tag). Repeated (White ▷ TokenRule) t.1.place t.1.following t.1.what) (sym what) moved
