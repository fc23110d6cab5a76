-- What the next filter and the next argument are, by the readers that found their beginnings.
use Rattle.std.proofs.Common.{
  ◌≡◌,
  ℕ,
  Bool,
  true,
  false,
  List,
  ◌∷◌,
  Option,
  Some,
  None,
  option_map,
  MatchOption,
  Bor,
  refl,
  sym,
  ap,
  ◌∙◌,
  subst,
}
use Rattle.std.specs.Option.{option_or}
use Rattle.liquid_grammar.specs.declared.parts.FilterStart.{FilterStart}
use Rattle.liquid_grammar.specs.declared.parts.ArgumentStart.{ArgumentStart}
use Rattle.liquid_grammar.specs.meaning.Rules.{Rule, Begins, here, instead, Repeated, Byte, Optional, ◌▷◌, ◌◁◌}
use Rattle.liquid_grammar.specs.meaning.Grammar.{White, Identifier}
use Rattle.liquid_grammar.specs.meaning.Values.{ValueRule}
use Rattle.liquid_grammar.specs.meaning.Tokens.{
  Argument,
  positional,
  keyword,
  Filter,
  Following,
  KeywordStart,
  KeywordRule,
  ArgumentRule,
  Arguments,
  arguments_of,
  FilterRule,
}
use Rattle.liquid_grammar.specs.meaning.Meanings.{literal_of}
use Rattle.liquid_grammar.specs.declared.literal.Literal.{Literal as CodeLiteral}
use Rattle.liquid_grammar.specs.declared.head.Head.{Head}
use Rattle.liquid_grammar.specs.declared.head.Head.TheVariants as head
use Rattle.liquid_grammar.specs.meaning.Parts.{HasHead, NoneLeft, First, IsFilter, IsArgument, ArgumentsFrom, separator}
use Rattle.liquid_grammar.specs.steps.Heads.{HasColon, IsHeadOf}
use Rattle.liquid_grammar.specs.steps.Steps.{Reader, identifier}
use Rattle.liquid_grammar.specs.steps.TokenSteps.{optional, separated, following, argument, arguments, text_or_number}
use Rattle.liquid_grammar.proofs.Exact.{Exact, same_match, none_begins, exact-right, exact-byte}
use Rattle.liquid_grammar.proofs.ExactRepeated.{exact-optional, repeated_total}
use Rattle.liquid_grammar.proofs.FlatBrackets.{left_some}
use Rattle.liquid_grammar.proofs.GrammarExact.{exact-white, exact-identifier}
use Rattle.liquid_grammar.proofs.TokenExact.{exact-following, exact-filter, exact-argument, exact-arguments, exact-more_arguments}
use Rattle.liquid_grammar.proofs.PartLemmas.{first_part, none_left, after_begins, none_before, none_after, head_found}
use Rattle.liquid_grammar.proofs.HeadLemmas.{literal_of_word, name_of_word, literal_without_word, no_name}

-- a separator between whitespace
abbrev Separated : ℕ → Rule (List ℕ)
Separated byte = White ▷ Byte byte ▷ White

exact-separated : (byte : ℕ) → Exact (separated byte) (Separated byte)
exact-separated byte = exact-right (exact-right exact-white (exact-byte byte)) exact-white

-- what is after a separator
pub following_begins : {A : Type 0} {R : Rule A} (byte : ℕ) (s place rest : List ℕ) (a : A)
    → Some place ≡ option_map (λ p. p.1) (separated byte s) → R place rest a → Following byte R s rest a
following_begins byte s place rest a e m = after_begins (exact-separated byte) s place rest a e m

pub no_separator : {A : Type 0} {R : Rule A} (byte : ℕ) (s : List ℕ) → None ≡ option_map (λ p. p.1) (separated byte s)
    → ¬ (Begins (Following byte R) s)
no_separator byte s e = none_before (exact-separated byte) s e

pub none_following : {A : Type 0} {R : Rule A} (byte : ℕ) (s place : List ℕ) → Some place ≡ option_map (λ p. p.1) (separated byte s)
    → ¬ (Begins R place) → ¬ (Begins (Following byte R) s)
none_following byte s place e none = none_after (exact-separated byte) s place e none

-- an optional part or none is found everywhere
optional_total : {A : Type 0} (f : Reader A) (s : List ℕ) → (x : Option A × List ℕ) × (optional f s ≡ Some x)
optional_total {A} f s = go (f s)
  where
    go : (o : Option (A × List ℕ)) → let some : A × List ℕ → Option A × List ℕ = λ a. (Some a.0, a.1) in (x : Option A × List ℕ)
        × (option_or (option_map some o) (Some (None, s)) ≡ Some x)
    go (Some x) = ((Some x.0, x.1), refl)
    go None = ((None, s), refl)

-- a filter by its name
pub filter_first : (f : FilterStart) (s rest : List ℕ) (filters : List Filter) → Some f.place.now ≡ option_map (λ p. p.1)
    (separated 124 s) → Some (f.name.now, f.rest.now) ≡ identifier f.place.now
    → Repeated (Following 124 FilterRule) s rest filters → First (IsFilter f) (Repeated (Following 124 FilterRule)) rest filters
filter_first f s rest filters e h ms =
    let o = optional_total arguments f.rest.now in
    let end = o.0.1 in
    let found : Optional Arguments f.rest.now end o.0.0 = (exact-optional exact-arguments).sound f.rest.now end o.0.0 o.1 in
    let filter : Filter = record { place = f.place.now; following = end; what = (f.name.now, arguments_of o.0.0) } in
    let m : FilterRule f.place.now end filter = record {
      begins = refl;
      ends = refl;
      match = record {
        from = (f.name.now, o.0.0);
        match = record { middle = f.rest.now; before = exact-identifier.sound f.place.now f.rest.now f.name.now (sym h); after = found };
        is = refl;
      };
    } in
    first_part (exact-following 124 exact-filter) (IsFilter f) s end rest filter filters (following_begins 124 s f.place.now end filter e m)
    (record { place_is = refl; after_is = refl; name_is = refl; arguments = record { from = o.0.0; match = found; is = refl } })
    ms

pub no_filter_name : (s : List ℕ) → None ≡ identifier s → ¬ (Begins FilterRule s)
no_filter_name s e b =
    none_begins exact-identifier s (sym e) (record {
      rest = b.match.match.match.middle;
      shape = b.match.match.from.0;
      match =
          b.match.match.match.before;
    })

-- no argument is left where none begins after the separator
pub no_argument_left : (is_first : Bool) (s rest : List ℕ) (found : List Argument)
    → ¬ (Begins (Following (separator is_first) ArgumentRule) s) → ArgumentsFrom is_first s rest found → NoneLeft s rest found
no_argument_left true s rest found none m = go m.from m.match m.is
  where
    go : (o : Option (List Argument)) → Optional Arguments s rest o → found ≡ arguments_of o → NoneLeft s rest found
    go o (here x) e = absurd (none (record { rest = x.match.match.middle; shape = x.match.from.0; match = x.match.match.before }))
    go o (instead unmatched x) e = record { none = e ∙ ap arguments_of x.is; ends = x.stays }
no_argument_left false s rest found none m = none_left s rest found m none

-- the arguments begin with the one that is matched after the separator
pub argument_first : (a : ArgumentStart) (is_first : Bool) (s middle rest : List ℕ) (part_here : Argument) (found : List Argument)
    → Following (separator is_first) ArgumentRule s middle part_here → IsArgument a middle part_here
    → ArgumentsFrom is_first s rest found → First (IsArgument a) (ArgumentsFrom false) rest found
argument_first a true s middle rest part_here found n is m = go m.from m.match m.is
  where
    part : (t : List ℕ) (p : Argument) → Following 58 ArgumentRule s t p → IsArgument a t p
    part t p b = subst (λ (x : Argument × List ℕ). IsArgument a x.1 x.0)
        (same_match (exact-following 58 exact-argument) s middle t part_here p n b) is

    go : (o : Option (List Argument)) → Optional Arguments s rest o → found ≡ arguments_of o
        → First (IsArgument a) (ArgumentsFrom false) rest found
    go o (here x) e =
        let then = x.match.match in
        record {
          part = x.match.from.0;
          others = x.match.from.1;
          middle = then.middle;
          joined = e ∙ ap arguments_of x.is ∙ x.match.is;
          found = part then.middle x.match.from.0 then.before;
          then = then.after;
        }
    go o (instead unmatched x) e =
        let all = repeated_total (following 44 argument) middle in
        absurd (unmatched (record {
          rest = all.0.1;
          shape = _;
          match = record {
            from = part_here ∷ all.0.0;
            match = record {
              from = (part_here, all.0.0);
              match =
                  record { middle = middle; before = n; after = exact-more_arguments.sound middle all.0.1 all.0.0 all.1 };
              is = refl;
            };
            is = refl;
          };
        }))
argument_first a false s middle rest part_here found n is m = first_part (exact-following 44 exact-argument)
    (IsArgument a) s middle rest part_here found n is m

-- how the value after a colon begins
pub colon_head : (s place : List ℕ) (r : Option (Head × Bor (List ℕ))) → Some place ≡ option_map (λ p. p.1) (separated 58 s)
    → MatchOption r (¬ (Begins ValueRule place)) (λ p. HasHead place p.0 p.1.now)
    → MatchOption r (¬ (Begins (Following 58 ValueRule) s)) (λ p. HasColon s p.0 p.1.now)
colon_head s place None e none = none_following 58 s place e none
colon_head s place (Some p) e has =
    let x = left_some (separated 58 s) place e in
    let colon = (exact-separated 58).sound s x.0.1 x.0.0 x.1 in
    record { place = place; white = x.0.0; colon = subst (λ t. Separated 58 s t x.0.0) x.2 colon; head = has }

-- a name and a colon after it
keyword_start_here : (s following place white name : List ℕ) → Some (name, following) ≡ identifier s → Separated 58 following place white
    → KeywordStart s place name
keyword_start_here s following place white name e colon =
    let before = colon.match.before in
    let word : (Identifier ◁ White) s before.match.middle name =
    record {
      from = (name, before.from.0);
      match =
          record { middle = following; before = exact-identifier.sound s following name (sym e); after = before.match.before };
      is = refl;
    }
    in
    let named : (Identifier ◁ White ◁ Byte 58) s colon.match.middle name =
    record {
      from = (name, before.from.1);
      match =
          record { middle = before.match.middle; before = word; after = before.match.after };
      is = refl;
    }
    in
    record {
      from = (name, colon.from.1);
      match = record { middle = colon.match.middle; before = named; after = colon.match.after };
      is =
          refl;
    }

-- no keyword argument begins where no identifier does, or where no colon with a value follows it
pub no_keyword_name : (s : List ℕ) → None ≡ identifier s → ¬ (Begins KeywordRule s)
no_keyword_name s e b =
    let word = b.match.match.before.match.before.match.before in
    none_begins exact-identifier s (sym e) (record { rest = word.match.middle; shape = word.from.0; match = word.match.before })

pub no_keyword_value : (s following name : List ℕ) → Some (name, following) ≡ identifier s
    → ¬ (Begins (Following 58 ValueRule) following) → ¬ (Begins KeywordRule s)
no_keyword_value s following name e none b =
    let start = b.match.match.before in
    let named = start.match.before in
    let word = named.match.before in
    let place = word.match.middle in
    let same = same_match exact-identifier s place following word.from.0 name word.match.before
    (exact-identifier.sound s following name (sym e)) in
    let front : (White ▷ Byte 58) place start.match.middle named.from.1 =
    record {
      from = (word.from.1, named.from.1);
      match =
          record { middle = named.match.middle; before = word.match.after; after = named.match.after };
      is = refl;
    }
    in
    let colon : Separated 58 place b.match.match.middle start.from.1 =
    record {
      from = (named.from.1, start.from.1);
      match =
          record { middle = start.match.middle; before = front; after = start.match.after };
      is = refl;
    }
    in
    let all : Following 58 ValueRule place b.rest b.match.from.1 =
    record {
      from = (start.from.1, b.match.from.1);
      match =
          record { middle = b.match.match.middle; before = colon; after = b.match.match.after };
      is = refl;
    }
    in
    none (subst (λ t. Begins (Following 58 ValueRule) t) (ap (λ (p : List ℕ × List ℕ). p.1) same)
    (record { rest = b.rest; shape = b.match.from.1; match = all }))

-- the value of an argument, by its first word, or by something that is not a word
word_head : (s word : List ℕ) (h : Head) (rest : Bor (List ℕ)) → Some (word, rest.now) ≡ identifier s → IsHeadOf word h
    → HasHead s h rest.now
word_head s word h rest e is = head_found s (Some (h, rest)) (literal_of_word s word h rest e is) (name_of_word s word h rest e is)

wordless_head : (s : List ℕ) (l : CodeLiteral) (rest : Bor (List ℕ)) → None ≡ identifier s
    → Some (literal_of l, rest.now) ≡ text_or_number s → HasHead s (head.Literal l) rest.now
wordless_head s l rest e f = head_found s (Some (head.Literal l, rest)) (literal_without_word s (Some (literal_of l, rest.now)) e f)
    (no_name s e)

-- the separator, as the program has it
pub at_separator : (byte wanted : ℕ) (s : List ℕ) (o : Option (List ℕ)) → byte ≡ wanted → o ≡ option_map (λ p. p.1) (separated byte s)
    → o ≡ option_map (λ p. p.1) (separated wanted s)
at_separator byte wanted s o is e = subst (λ b. o ≡ option_map (λ p. p.1) (separated b s)) is e

-- the next argument, with a name and without
pub keyword_first : (name after : Bor (List ℕ)) (h : Head) (is_first : Bool) (s place following rest : List ℕ) (found : List Argument)
    → Some place ≡ option_map (λ p. p.1) (separated (separator is_first) s)
    → Some (name.now, following) ≡ identifier place → HasColon following h after.now → ArgumentsFrom is_first s rest found
    → let a : ArgumentStart = record { name = Some name; head = h; rest = after } in First (IsArgument a) (ArgumentsFrom false) rest found
keyword_first name after h is_first s place following rest found e word has m =
    let a : ArgumentStart = record { name = Some name; head = h; rest = after } in
    let v = has.head in
    let part = keyword name.now v.value in
    let start = keyword_start_here place following has.place has.white name.now word has.colon in
    let here_is : ArgumentRule place v.rest part =
    here (record { from = (name.now, v.value); match = record { middle = has.place; before = start; after = v.match }; is = refl }) in
    argument_first a is_first s v.rest rest part found (following_begins (separator is_first) s place v.rest part e here_is)
    (record { place = has.place; value = v.value; is = refl; head = v.head }) m

positional_first : (after : Bor (List ℕ)) (h : Head) (is_first : Bool) (s place rest : List ℕ) (found : List Argument)
    → Some place ≡ option_map (λ p. p.1) (separated (separator is_first) s)
    → ¬ (Begins KeywordRule place) → HasHead place h after.now → ArgumentsFrom is_first s rest found
    → let a : ArgumentStart = record { name = None; head = h; rest = after } in First (IsArgument a) (ArgumentsFrom false) rest found
positional_first after h is_first s place rest found e none has m =
    let a : ArgumentStart = record { name = None; head = h; rest = after } in
    let part = positional has.value in
    let stands : ArgumentRule place has.rest part = instead none (record { from = has.value; match = has.match; is = refl }) in
    argument_first a is_first s has.rest rest part found (following_begins (separator is_first) s place has.rest part e stands)
    (record { place = place; value = has.value; is = refl; head = has.head }) m

pub word_first : (after : Bor (List ℕ)) (h : Head) (is_first : Bool) (s place word rest : List ℕ) (found : List Argument)
    → Some place ≡ option_map (λ p. p.1) (separated (separator is_first) s)
    → Some (word, after.now) ≡ identifier place → ¬ (Begins (Following 58 ValueRule) after.now) → IsHeadOf word h
    → ArgumentsFrom is_first s rest found
    → let a : ArgumentStart = record { name = None; head = h; rest = after } in First (IsArgument a) (ArgumentsFrom false) rest found
word_first after h is_first s place word rest found e i none is m =
    positional_first after h is_first s place rest found e (no_keyword_value place after.now word i none)
    (word_head place word h after i is) m

pub wordless_first : (l : CodeLiteral) (after : Bor (List ℕ)) (is_first : Bool) (s place rest : List ℕ) (found : List Argument)
    → Some place ≡ option_map (λ p. p.1) (separated (separator is_first) s)
    → None ≡ identifier place → Some (literal_of l, after.now) ≡ text_or_number place → ArgumentsFrom is_first s rest found
    → let a : ArgumentStart = record { name = None; head = head.Literal l; rest = after } in First (IsArgument a)
    (ArgumentsFrom false) rest found
wordless_first l after is_first s place rest found e i f m =
    positional_first after (head.Literal l) is_first s place rest found e (no_keyword_name place i) (wordless_head place l after i f) m

pub no_argument_here : (place : List ℕ) → None ≡ identifier place → None ≡ text_or_number place → ¬ (Begins ArgumentRule place)
no_argument_here place i f b = go b.match
  where
    go : ArgumentRule place b.rest b.shape → ⊥
    go (here m) = no_keyword_name place i (record { rest = b.rest; shape = b.shape; match = m })
    go (instead _ m) = head_found place None (literal_without_word place None i f) (no_name place i)
        (record { rest = b.rest; shape = m.from; match = m.match })
