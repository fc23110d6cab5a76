-- The elements of a text: there is one at each place, and so each text has one cover.
use Rattle.std.proofs.Common.{
  ◌≡◌,
  ℕ,
  zero,
  suc,
  ◌-◌,
  ◌<◌,
  ◌≤◌,
  Bool,
  true,
  false,
  List,
  [],
  ◌∷◌,
  ◌++◌,
  length,
  take,
  drop,
  Option,
  Some,
  None,
  is_some,
  option_map,
  refl,
  sym,
  ap,
  ap₂,
  ◌∙◌,
  inl,
  inr,
  subst,
  arith,
  take_at,
  drop_at,
  length-append,
  append_assoc,
  eqb-true,
  take-append-drop,
  length-take-le,
  length-drop,
}
use Rattle.std.proofs.lemmas.Bool.{cases_lt}
use Rattle.std.proofs.lemmas.List.{append_cancel_right}
use Rattle.std.proofs.lemmas.Option.{same_Some, none-some}
use Rattle.std.specs.Option.{option_or}
use Rattle.liquid_grammar.specs.meaning.Bytes.{is_white}
use Rattle.liquid_grammar.specs.meaning.Rules.{Begins, One, here, instead, ends, Byte}
use Rattle.liquid_grammar.specs.meaning.Grammar.{White, Braces, Opener, Opens, AnyOpener, LoneBrace}
use Rattle.liquid_grammar.specs.meaning.Cover.{
  Element,
  raw,
  tag_element,
  expression,
  invalid,
  text_of,
  Raw,
  IsElement,
  Cover,
  done,
  next,
  OnlyCover,
  joined,
}
use Rattle.liquid_grammar.specs.declared.element.Element.{Element as CodeElement}
use Rattle.liquid_grammar.specs.meaning.Elements.{Taken, Means}
use Rattle.liquid_grammar.specs.meaning.Tokens.{Tag, Chain, TagRule, ExpressionRule}
use Rattle.liquid_grammar.specs.meaning.Faults.{Fault, tag_fault, chain_fault}
use Rattle.liquid_grammar.specs.meaning.Kinds.{Kind, chain_kind}
use Rattle.liquid_grammar.specs.meaning.Meanings.{TagSeen, tag_seen, ChainSeen, chain_seen}
use Rattle.liquid_grammar.specs.steps.TokenSteps.{full_expression, tag as read_tag}
use Rattle.liquid_grammar.specs.steps.Steps as read
use Rattle.liquid_grammar.proofs.RawLemmas.{opens, opens_from, closed_from}
use Rattle.liquid_grammar.proofs.Exact.{same_match, none_begins, option_cases, before_end}
use Rattle.liquid_grammar.proofs.GrammarExact.{exact-white, exact-opener, exact-lone_brace, shrinks-lone_brace}
use Rattle.liquid_grammar.proofs.TokenExact.{exact-tag, exact-full_expression, shrinks-tag, shrinks-full_expression}

-- braces begin with one `{`
braces_front : (kind : ℕ) (s rest : List ℕ) (b : ℕ) → Braces kind s rest b → (middle : List ℕ) × (s ≡ 123 ∷ middle)
braces_front kind s rest b m =
    let first = m.match.before in
    (m.match.middle, first.front ∙ ap (λ x. x ∷ m.match.middle) (eqb-true m.from.0 123 first.passes))

not_white : (s middle : List ℕ) → s ≡ 123 ∷ middle → ¬ (Begins (One is_white) s)
not_white s middle e b =
    let q = sym e ∙ b.match.front in
    let w : is_white 123 ≡ true = ap is_white (let h : 123 ≡ b.shape = cc in h) ∙ b.match.passes in
    cc

lone_brace_from : (s middle rest : List ℕ) (white : List ℕ) (b : ℕ) → White s middle white → Byte 123 middle rest b → Begins LoneBrace s
lone_brace_from s middle rest white b w m =
    let cut = exact-white.cuts s middle white w in
    record {
      rest = rest;
      shape = cut.0 ++ b ∷ [];
      match = record {
        shape = (white, b);
        match = record { middle = middle; before = w; after = m };
        front = cut.1 ∙ ap (λ x. cut.0 ++ x) m.front ∙ sym (append_assoc cut.0 (b ∷ []) rest);
      };
    }

opener_brace : (kind : ℕ) (s rest : List ℕ) (b : ℕ) → Opener kind s rest b → Begins LoneBrace s
opener_brace kind s rest b (here m) =
    let front = m.match.before in
    let braces = front.match.after in
    lone_brace_from s front.match.middle braces.match.middle front.from.0 braces.from.0 front.match.before braces.match.before
opener_brace kind s rest b (instead h m) =
    let e = braces_front kind s rest b m in
    lone_brace_from s s m.match.middle [] m.from.0 (ends (not_white s e.0 e.1)) m.match.before

-- an opener has a brace after its whitespace
pub brace_begins : (s : List ℕ) → Opens s → Begins LoneBrace s
brace_begins s o = go o.match
  where
    go : AnyOpener s o.rest o.shape → Begins LoneBrace s
    go (here m) = opener_brace 123 s o.rest o.shape m
    go (instead h m) = opener_brace 37 s o.rest o.shape m

-- a tag and an expression begin with an opener
pub expression_opens : (s rest : List ℕ) (chain : Chain) → ExpressionRule s rest chain → Opens s
expression_opens s rest chain m =
    let following = m.match.before.match.before.match.before.match in
    record { rest = following.middle; shape = m.match.before.match.before.match.before.from.0; match = here following.before }

or_some : {A : Type 0} (o p : Option A) (x : A) → p ≡ Some x → is_some (option_or o p) ≡ true
or_some (Some y) p x e = refl
or_some None p x e = ap is_some e

pub tag_opens : (s rest : List ℕ) (tag : Tag) → TagRule s rest tag → Opens s
unfolding read.any_opener
tag_opens s rest tag m =
    let start = m.match.before.match.before.before in
    let following = start.match.before.match in
    let found = (exact-opener 37).complete s following.middle start.match.before.from.0 following.before in
    opens_from s (or_some (read.opener 123 s) (read.opener 37 s) _ found)

-- two ends of one text leave the same
same_front : (s t₁ t₂ rest : List ℕ) → s ≡ t₁ ++ rest → s ≡ t₂ ++ rest → t₁ ≡ t₂
same_front s t₁ t₂ rest e f = append_cancel_right t₁ t₂ rest (sym e ∙ f)

-- raw text doesn't end before the next opener
raw_not_shorter : (s r₁ r₂ t₁ t₂ : List ℕ) → s ≡ t₁ ++ r₁ → s ≡ t₂ ++ r₂ → Raw s r₁ t₁ → Raw s r₂ t₂ → length t₁ < length t₂ → ⊥
raw_not_shorter s r₁ r₂ t₁ t₂ e f a b h =
    let some : 0 < length r₁ = omega (arith, ap length e, ap length f, length-append t₁ r₁, length-append t₂ r₂) in
    let following : drop (length t₁) s ≡ r₁ = ap (drop (length t₁)) e ∙ drop_at t₁ r₁ (length t₁) refl in
    b.closed (length t₁) h (subst Opens (sym following) (a.stops some))

same_raw : (s r₁ r₂ t₁ t₂ : List ℕ) → s ≡ t₁ ++ r₁ → s ≡ t₂ ++ r₂ → Raw s r₁ t₁ → Raw s r₂ t₂ → (t₁ ≡ t₂) × (r₁ ≡ r₂)
same_raw s r₁ r₂ t₁ t₂ e f a b =
    let len : length t₁ ≡ length t₂ = elim (cases_lt (length t₁) (length t₂)) [
      | inl h ↦ absurd (raw_not_shorter s r₁ r₂ t₁ t₂ e f a b h)
      | inr h ↦ (elim (cases_lt (length t₂) (length t₁)) [
        | inl k ↦ absurd (raw_not_shorter s r₂ r₁ t₂ t₁ f e b a k)
        | inr k ↦ omega arith
      ])
    ] in (
      sym (take_at t₁ r₁ (length t₂) len) ∙ ap (take (length t₂)) (sym e ∙ f) ∙ take_at t₂ r₂ (length t₂) refl,
      sym (drop_at t₁ r₁ (length t₂) len) ∙ ap (drop (length t₂)) (sym e ∙ f) ∙ drop_at t₂ r₂ (length t₂) refl,
    )

-- raw text doesn't begin where an opener does
raw_closed : (s rest text : List ℕ) → Raw s rest text → ¬ (Opens s)
raw_closed s rest text a o = a.closed 0 a.some o

abbrev taken : Element → List ℕ → Taken
taken e rest = (e, rest)

-- at most one element begins at a place
pub same_element : (s r₁ r₂ : List ℕ) (e₁ e₂ : Element) → IsElement s r₁ e₁ → IsElement s r₂ e₂ → ◌≡◌ {A = Taken} (e₁, r₁) (e₂, r₂)
same_element s r₁ r₂ (raw t₁) (raw t₂) a b = let q = same_raw s r₁ r₂ t₁ t₂ a.joined b.joined a.kind b.kind in ap₂
    (λ x y. taken (raw x) y) q.0 q.1
same_element s r₁ r₂ (raw t₁) (tag_element n₂ t₂) a b = absurd (raw_closed s r₁ t₁ a.kind (tag_opens s r₂ n₂ b.kind))
same_element s r₁ r₂ (raw t₁) (expression n₂ t₂) a b = absurd (raw_closed s r₁ t₁ a.kind (expression_opens s r₂ n₂ b.kind.match))
same_element s r₁ r₂ (raw t₁) (invalid t₂) a b = absurd (raw_closed s r₁ t₁ a.kind b.kind.opens)
same_element s r₁ r₂ (tag_element n₁ t₁) (raw t₂) a b = absurd (raw_closed s r₂ t₂ b.kind (tag_opens s r₁ n₁ a.kind))
same_element s r₁ r₂ (tag_element n₁ t₁) (tag_element n₂ t₂) a b =
    let q = same_match exact-tag s r₁ r₂ n₁ n₂ a.kind b.kind in
    let rests = ap (λ (x : Tag × List ℕ). x.1) q in
    let texts = same_front s t₁ t₂ r₂ (a.joined ∙ ap (λ x. t₁ ++ x) rests) b.joined in
    ap₂ (λ x y. taken (tag_element x t₁) y) (ap (λ (x : Tag × List ℕ). x.0) q) rests ∙ ap (λ x. taken (tag_element n₂ x) r₂) texts
same_element s r₁ r₂ (tag_element n₁ t₁) (expression n₂ t₂) a b = absurd (b.kind.no_tag (record { rest = r₁; shape = n₁; match = a.kind }))
same_element s r₁ r₂ (tag_element n₁ t₁) (invalid t₂) a b = absurd (b.kind.no_tag (record { rest = r₁; shape = n₁; match = a.kind }))
same_element s r₁ r₂ (expression n₁ t₁) (raw t₂) a b = absurd (raw_closed s r₂ t₂ b.kind (expression_opens s r₁ n₁ a.kind.match))
same_element s r₁ r₂ (expression n₁ t₁) (tag_element n₂ t₂) a b = absurd (a.kind.no_tag (record { rest = r₂; shape = n₂; match = b.kind }))
same_element s r₁ r₂ (expression n₁ t₁) (expression n₂ t₂) a b =
    let q = same_match exact-full_expression s r₁ r₂ n₁ n₂ a.kind.match b.kind.match in
    let rests = ap (λ (x : Chain × List ℕ). x.1) q in
    let texts = same_front s t₁ t₂ r₂ (a.joined ∙ ap (λ x. t₁ ++ x) rests) b.joined in
    ap₂ (λ x y. taken (expression x t₁) y) (ap (λ (x : Chain × List ℕ). x.0) q) rests ∙ ap (λ x. taken (expression n₂ x) r₂) texts
same_element s r₁ r₂ (expression n₁ t₁) (invalid t₂) a b =
    absurd (b.kind.no_expression (record { rest = r₁; shape = n₁; match = a.kind.match }))
same_element s r₁ r₂ (invalid t₁) (raw t₂) a b = absurd (raw_closed s r₂ t₂ b.kind a.kind.opens)
same_element s r₁ r₂ (invalid t₁) (tag_element n₂ t₂) a b = absurd (a.kind.no_tag (record { rest = r₂; shape = n₂; match = b.kind }))
same_element s r₁ r₂ (invalid t₁) (expression n₂ t₂) a b =
    absurd (a.kind.no_expression (record { rest = r₂; shape = n₂; match = b.kind.match }))
same_element s r₁ r₂ (invalid t₁) (invalid t₂) a b =
    let q = same_match exact-lone_brace s r₁ r₂ t₁ t₂ a.kind.brace b.kind.brace in
    ap₂ (λ x y. taken (invalid x) y) (ap (λ (x : List ℕ × List ℕ). x.0) q) (ap (λ (x : List ℕ × List ℕ). x.1) q)

-- what a rule leaves is an end of the text
pub tag_ends : (s rest : List ℕ) (tag : Tag) → TagRule s rest tag → s ≡ take (length s - length rest) s ++ rest
tag_ends s rest tag m = before_end s rest (exact-tag.cuts s rest tag m)

pub expression_ends : (s rest : List ℕ) (chain : Chain) → ExpressionRule s rest chain → s ≡ take (length s - length rest) s ++ rest
expression_ends s rest chain m = before_end s rest (exact-full_expression.cuts s rest chain m)

-- the tag and the expression that the readers find
pub tag_found : (s name tokens rest : List ℕ) (fault : Option Fault) → ◌≡◌ {A = Option TagSeen} (Some (name, tokens, fault, rest))
    (option_map tag_seen (read_tag s))
    → (tag : Tag) × TagRule s rest tag × (name ≡ tag.0) × (tokens ≡ tag.1.place) × (fault ≡ tag_fault tag)
tag_found s name tokens rest fault e = go (read_tag s) refl e
  where
    go : (o : Option (Tag × List ℕ)) → read_tag s ≡ o → ◌≡◌ {A = Option TagSeen} (Some (name, tokens, fault, rest)) (option_map tag_seen o)
        → (tag : Tag) × TagRule s rest tag × (name ≡ tag.0) × (tokens ≡ tag.1.place) × (fault ≡ tag_fault tag)
    go None h q = absurd (none-some _ (sym q))
    go (Some x) h q =
        let p = same_Some _ _ q in
        let rests = sym (ap (λ (y : TagSeen). y.3) p) in
        let m = subst (λ (r : List ℕ). TagRule s r x.0) rests (exact-tag.sound s x.1 x.0 h) in
        (x.0, m, ap (λ (y : TagSeen). y.0) p, ap (λ (y : TagSeen). y.1) p, ap (λ (y : TagSeen). y.2) p)

abbrev kind_seen : Chain × List ℕ → Kind
kind_seen a = chain_kind a.0.what.0 a.0.what.1

pub expression_found : (s chain rest : List ℕ) (kind : Kind) (fault : Option Fault)
    → Some kind ≡ option_map kind_seen (full_expression s) → ◌≡◌ {A = Option ChainSeen} (Some (chain, fault, rest))
    (option_map chain_seen (full_expression s))
    → (c : Chain) × ExpressionRule s rest c × (chain ≡ c.place) × (fault ≡ chain_fault c) × (kind ≡ chain_kind c.what.0 c.what.1)
expression_found s chain rest kind fault k e = go (full_expression s) refl k e
  where
    go : (o : Option (Chain × List ℕ)) → full_expression s ≡ o → Some kind ≡ option_map kind_seen o
        → ◌≡◌ {A = Option ChainSeen} (Some (chain, fault, rest)) (option_map chain_seen o)
        → (c : Chain) × ExpressionRule s rest c × (chain ≡ c.place) × (fault ≡ chain_fault c) × (kind ≡ chain_kind c.what.0 c.what.1)
    go None h k q = absurd (none-some _ (sym q))
    go (Some x) h k q =
        let p = same_Some _ _ q in
        let rests = sym (ap (λ (y : ChainSeen). y.2) p) in
        let m = subst (λ (r : List ℕ). ExpressionRule s r x.0) rests (exact-full_expression.sound s x.1 x.0 h) in
        (x.0, m, ap (λ (y : ChainSeen). y.0) p, ap (λ (y : ChainSeen). y.1) p, same_Some _ _ k)

pub no_tag : (s : List ℕ) → ◌≡◌ {A = Option TagSeen} None (option_map tag_seen (read_tag s)) → ¬ (Begins TagRule s)
no_tag s e b = none-some _ (e ∙ ap (option_map tag_seen) (exact-tag.complete s b.rest b.shape b.match))

pub no_expression : (s : List ℕ) → ◌≡◌ {A = Option ChainSeen} None (option_map chain_seen (full_expression s)) → ¬ (Begins ExpressionRule s)
no_expression s e b = none-some _ (e ∙ ap (option_map chain_seen) (exact-full_expression.complete s b.rest b.shape b.match))

-- the elements that begin with an opener
pub tag_element_is : (s rest : List ℕ) (tag : Tag) → TagRule s rest tag → IsElement s rest
    (tag_element tag (take (length s - length rest) s))
tag_element_is s rest tag m = record { joined = tag_ends s rest tag m; kind = m }

pub expression_is : (s rest : List ℕ) (chain : Chain) → ¬ (Begins TagRule s) → ExpressionRule s rest chain
    → IsElement s rest (expression chain (take (length s - length rest) s))
expression_is s rest chain none m = record { joined = expression_ends s rest chain m; kind = record { no_tag = none; match = m } }

pub invalid_is : (s rest text : List ℕ) → Opens s → ¬ (Begins TagRule s) → ¬ (Begins ExpressionRule s)
    → read.lone_brace s ≡ Some (text, rest) → IsElement s rest (invalid text)
invalid_is s rest text o no_tag no_expression e =
    let brace = exact-lone_brace.sound s rest text e in
    record { joined = brace.front; kind = record { opens = o; no_tag = no_tag; no_expression = no_expression; brace = brace } }

pub raw_element : (s : List ℕ) (n : ℕ) → 0 < n → n ≤ length s → ((k : ℕ) → k < n → ¬ (Opens (drop k s)))
    → (n < length s → Opens (drop n s)) → IsElement s (drop n s) (raw (take n s))
raw_element s n some within closed stops =
    let len : length (take n s) ≡ n = length-take-le n s within in
    record {
      joined = sym (take-append-drop n s);
      kind = record {
        some = omega arith;
        closed = λ k h. let before : k < n = omega arith in closed k before;
        stops = λ h. let inside : n < length s = omega (arith, length-drop n s) in stops inside;
      };
    }

-- where an opener begins, a brace is found
pub brace_found : (s : List ℕ) → Opens s → ¬ (read.lone_brace s ≡ None)
brace_found s o e = none_begins exact-lone_brace s e (brace_begins s o)

-- an element, and what it leaves
record Next (s : List ℕ) : Type 0 where
  element : Element
  rest : List ℕ
  is : IsElement s rest element

opened_next : (s : List ℕ) → Opens s → Next s
opened_next s o = by_tag (read_tag s) refl
  where
    brace : ¬ (Begins TagRule s) → ¬ (Begins ExpressionRule s) → Next s
    brace t c =
        option_cases (read.lone_brace s) (λ x e. record { element = invalid x.0; rest = x.1; is = invalid_is s x.1 x.0 o t c e })
        (λ e. absurd (brace_found s o e))

    by_expression : ¬ (Begins TagRule s) → (r : Option (Chain × List ℕ)) → full_expression s ≡ r → Next s
    by_expression t (Some x) e = record {
      element = expression x.0 (take (length s - length x.1) s);
      rest = x.1;
      is =
          expression_is s x.1 x.0 t (exact-full_expression.sound s x.1 x.0 e);
    }
    by_expression t None e = brace t (none_begins exact-full_expression s e)

    by_tag : (r : Option (Tag × List ℕ)) → read_tag s ≡ r → Next s
    by_tag (Some x) e = record {
      element = tag_element x.0 (take (length s - length x.1) s);
      rest = x.1;
      is =
          tag_element_is s x.1 x.0 (exact-tag.sound s x.1 x.0 e);
    }
    by_tag None e = by_expression (none_begins exact-tag s e) (full_expression s) refl

-- what raw text is, except that it is cut between characters
record EndsAt (s : List ℕ) (n : ℕ) : Type 0 where
  within : n ≤ length s
  closed : (k : ℕ) → k < n → ¬ (Opens (drop k s))
  stops : n < length s → Opens (drop n s)

raw_ends : (s : List ℕ) → (n : ℕ) × EndsAt s n
raw_ends [] = (0, record { within = omega arith; closed = λ k h. absurd (omega arith); stops = λ h. absurd (omega arith) })
raw_ends (b ∷ s) = go (opens (b ∷ s)) refl (raw_ends s)
  where
    go : (t : Bool) → opens (b ∷ s) ≡ t → (n : ℕ) × EndsAt s n → (n : ℕ) × EndsAt (b ∷ s) n
    go true e more_of = (0, record { within = omega arith; closed = λ k h. absurd (omega arith); stops = λ h. opens_from (b ∷ s) e })
    go false e more_of =
        let m = more_of.1 in (
          suc more_of.0,
          record {
            within = omega (arith, m.within);
            closed = λ k h. closed_after k h e m.closed;
            stops = λ h. m.stops (omega arith);
          },
        )
      where
        closed_after : (k : ℕ) → k < suc more_of.0 → opens (b ∷ s) ≡ false → ((j : ℕ) → j < more_of.0 → ¬ (Opens (drop j s)))
            → ¬ (Opens (drop k (b ∷ s)))
        closed_after zero h e c = closed_from (b ∷ s) e
        closed_after (suc k) h e c = c k (omega arith)

-- an element takes something
pub element_some : (s rest : List ℕ) (e : Element) → IsElement s rest e → length rest < length s
element_some s rest (raw text) m = let some = m.kind.some in omega (arith, ap length m.joined, length-append text rest)
element_some s rest (tag_element tag text) m = shrinks-tag s rest tag m.kind
element_some s rest (expression chain text) m = shrinks-full_expression s rest chain m.kind.match
element_some s rest (invalid text) m = shrinks-lone_brace s rest text m.kind.brace

-- some element begins each text but the empty one
next_of : (s : List ℕ) → 0 < length s → Next s
next_of s some = go (raw_ends s)
  where
    go : (n : ℕ) × EndsAt s n → Next s
    go m = elim (cases_lt 0 m.0) [
      | inl front ↦ record {
        element = raw (take m.0 s);
        rest = drop m.0 s;
        is = raw_element s m.0 front m.1.within m.1.closed m.1.stops;
      }
      | inr none ↦ (let none_left : m.0 ≡ 0 = omega arith in
          opened_next s (subst (λ (k : ℕ). Opens (drop k s)) none_left (m.1.stops (omega arith))))
    ]

cover_by : (fuel : ℕ) (s : List ℕ) → length s < fuel → (es : List Element) × Cover s es
cover_by zero s h = absurd (omega arith)
cover_by (suc fuel) [] h = ([], done)
cover_by (suc fuel) (b ∷ s) h =
    let n = next_of (b ∷ s) (omega arith) in
    let less = element_some (b ∷ s) n.rest n.element n.is in
    let more_of = cover_by fuel n.rest (omega arith) in
    (n.element ∷ more_of.0, next n.is more_of.1)

-- no element begins the empty text
pub cover_empty : (es : List Element) → Cover [] es → es ≡ []
cover_empty es done = refl
cover_empty es (next {rest = rest} {e = e} m ms) = absurd (let h = element_some [] rest e m in omega arith)

-- what covers a text begins with the element there, and continues as a cover of the rest
pub cover_after : (s rest : List ℕ) (e : Element) (es : List Element) → IsElement s rest e → Cover s es → (after : List Element)
    × (es ≡ e ∷ after) × Cover rest after
cover_after s rest e es m done = absurd (let h = element_some [] rest e m in omega arith)
cover_after s rest e es m (next {rest = r} {e = d} {es = ds} a c) =
    let q = same_element s r rest d e a m in
    (ds, ap (λ x. x.0 ∷ ds) q, subst (λ (x : List ℕ). Cover x ds) (ap (λ x. x.1) q) c)

pub same_cover : (s : List ℕ) (es fs : List Element) → Cover s es → Cover s fs → es ≡ fs
same_cover s es fs done c = sym (cover_empty fs c)
same_cover s es fs (next {rest = r} {e = e} {es = more_of} a c) d =
    let q = cover_after s r e fs a d in
    ap (λ x. e ∷ x) (same_cover r more_of q.0 c q.2) ∙ sym q.1

-- each text has one cover
pub cover_of : (s : List ℕ) → OnlyCover s
cover_of s = let c = cover_by (suc (length s)) s (omega arith) in record {
  elements = c.0;
  cover = c.1;
  only =
      λ fs d. same_cover s fs c.0 d c.1;
}

-- elements joined are the text
pub joined_cover : (s : List ℕ) (es : List Element) → Cover s es → joined es ≡ s
joined_cover s es done = refl
joined_cover s es (next {rest = r} {e = e} {es = more_of} a c) = ap (λ x. text_of e ++ x) (joined_cover r more_of c) ∙ sym a.joined

-- what was found means whatever is there
pub only_element : (s r : List ℕ) (c : CodeElement) (found : Element) → IsElement s r found → Means c found
    → (rest : List ℕ) (e : Element) → IsElement s rest e → Means c e × (r ≡ rest)
only_element s r c found is means rest e m =
    let q = same_element s r rest found e is m in
    (subst (λ (x : Element). Means c x) (ap (λ (x : Taken). x.0) q) means, ap (λ (x : Taken). x.1) q)
