-- Printing item by item is printing the reading.
use Rattle.std.proofs.Common.{
  ◌≡◌,
  ◌≢◌,
  ℕ,
  ◌==◌,
  Bool,
  false,
  ◌<◌,
  List,
  [],
  ◌∷◌,
  ◌++◌,
  length,
  refl,
  sym,
  ap,
  ◌∙◌,
  Option,
  Some,
  None,
  Result,
  Ok,
  Err,
  append_assoc,
  append-nil,
  length-append,
  drop,
  arith,
  subst,
  rules,
}
use Rattle.std.specs.Prelude.{encode_utf8, encode_utf8_all, MatchOption}
use Rattle.std.specs.Str.{chars, IsUtf8, IsCharBoundary, NonePass, NoCharPasses}
use Rattle.std.proofs.lemmas.Bool.Decides.{nat_tests}
use Rattle.std.proofs.lemmas.Str.{
  chars-append,
  chars_past_char,
  chars_from_encodes,
  encodes-chars,
  IsUtf8-append,
  IsUtf8-encode,
  IsUtf8-drop,
  IsUtf8-take,
  IsCharBoundary-at_seam,
}
use Rattle.std.proofs.lemmas.Str.Pattern.{IsSplitOnceResult, split_parts}
use Rattle.std.specs.Borrow.{Bor}
use Rattle.liquid_dates.specs.declared.date_time.DateTime.{DateTime}
use Rattle.liquid_dates.specs.declared.directive.Directive.{Directive}
use Rattle.liquid_dates.specs.declared.pattern.Conversion.{Conversion}
use Rattle.liquid_dates.specs.declared.error.DateFormatError.{DateFormatError}
use Rattle.liquid_dates.specs.declared.error.DateFormatError.TheVariants.{
  NoFormatSpecifier,
  NoFormatSpecifierAfterModifier,
  InvalidWidth,
  Memory,
}
use Rattle.liquid_dates.specs.meaning.Flags.{flags_of, width_of}
use Rattle.liquid_dates.specs.meaning.Letters.{directive_of}
use Rattle.liquid_dates.specs.meaning.Pattern.{
  Item,
  literal,
  directive,
  spelling,
  IsItem,
  IsFront,
  IsRefused,
  item_print,
  directive_print,
  print,
  answer_of,
  FormatsTo,
  OnRefusal,
}
use Rattle.liquid_dates.specs.steps.PatternReader.{ItemRead, directive_at, IsReadAs, IsPrinted, HasRest, conversion_of, conversion_print}
use Rattle.liquid_dates.proofs.PatternLemmas.{Describes, directive_describes, front_more, one_reading, shorter}

-- after its per cent a directive has the rest at its end
pub spelled : (cs : List ℕ) (conversion : Conversion) (rest : Bor (List ℕ)) → IsReadAs (Ok (conversion, rest)) (directive_at cs)
    → HasRest cs (chars rest.now)
unfolding spelling
spelled cs conversion rest h = by_cases _ (directive_describes cs) h
  where
    by_item : (item : Item) → 37 ∷ cs ≡ spelling item ++ chars rest.now → HasRest cs (chars rest.now)
    by_item (literal c) e = ([], ap (drop 1) e)
    by_item (directive flags digits modifier letter) e = (flags ++ (digits ++ (modifier ++ letter)), ap (drop 1) e)

    by_cases : (r : ItemRead) → Describes (37 ∷ cs) r → IsReadAs (Ok (conversion, rest)) r → HasRest cs (chars rest.now)
    by_cases (Ok (item, more)) d h = by_item item (rw h.1 d.0)
    by_cases (Err e) d h = absurd h

conversion_prints : (dt : DateTime) (item : Item) (conversion : Conversion) (text : List ℕ) → conversion_of item conversion
    → text ≡ encode_utf8_all (spelling item)
    → conversion_print dt conversion.flags conversion.width conversion.directive text ≡ item_print dt item
unfolding item_print
conversion_prints dt (literal c) conversion text h e = absurd h
conversion_prints dt (directive flags digits modifier letter) conversion text h e =
    rw (h.0, h.1, h.2) (by_letter (directive_of letter))
  where
    by_letter : (d : Option Directive) → conversion_print dt (flags_of flags) (width_of digits) d text ≡ directive_print dt
        (directive flags digits modifier letter) d flags digits
    by_letter None = e
    by_letter (Some d) = refl

-- what the code prints of it is what the item prints
pub directive_printed : (dt : DateTime) (cs : List ℕ) (conversion : Conversion) (rest : Bor (List ℕ)) (text old new : List ℕ)
    → IsReadAs (Ok (conversion, rest)) (directive_at cs)
    → ((front : List ℕ) → cs ≡ front ++ chars rest.now → text ≡ encode_utf8_all front) → new ≡ old
    ++ conversion_print dt conversion.flags conversion.width conversion.directive (37 ∷ text)
    → IsPrinted dt (directive_at cs) (chars rest.now) old new
unfolding spelling lib.Utf8.encode
directive_printed dt cs conversion rest text old new h front is = by_cases _ (directive_describes cs) h
  where
    by_item : (item : Item) → 37 ∷ cs ≡ spelling item ++ chars rest.now → conversion_of item conversion → 37
        ∷ text ≡ encode_utf8_all (spelling item)
    by_item (literal c) e h = absurd h
    by_item (directive flags digits modifier letter) e h =
        ap (λ t. 37 ∷ t) (front (flags ++ (digits ++ (modifier ++ letter))) (ap (drop 1) e))

    by_cases : (r : ItemRead) → Describes (37 ∷ cs) r → IsReadAs (Ok (conversion, rest)) r → IsPrinted dt r (chars rest.now) old new
    by_cases (Ok (item, more)) d h =
        let e : 37 ∷ text ≡ encode_utf8_all (spelling item) = by_item item (rw h.1 d.0) h.0 in
        (sym h.1, is ∙ ap (λ t. old ++ t) (conversion_prints dt item conversion (37 ∷ text) h.0 e))
    by_cases (Err e) d h = absurd h

-- the print of one more item
pub print_more : (dt : DateTime) (items : List Item) (i : Item) → print dt (items ++ (i ∷ [])) ≡ print dt items ++ item_print dt i
unfolding print
print_more dt [] i = append-nil (item_print dt i)
print_more dt (j ∷ items) i =
    ap (λ t. item_print dt j ++ t) (print_more dt items i) ∙ sym (append_assoc (item_print dt j) (print dt items) (item_print dt i))

-- an item that was printed, and what it is before the rest
pub record Printed (dt : DateTime) (text rest old new : List ℕ) : Type 0 where
  pub item : Item
  pub joined : text ≡ spelling item ++ rest
  pub is : IsItem item rest
  pub prints : new ≡ old ++ item_print dt item

pub printed_directive : (dt : DateTime) (cs rest old new : List ℕ) → IsPrinted dt (directive_at cs) rest old new
    → Printed dt (37 ∷ cs) rest old new
printed_directive dt cs rest old new h = by_cases (directive_at cs) (directive_describes cs) h
  where
    by_cases : (r : ItemRead) → Describes (37 ∷ cs) r → IsPrinted dt r rest old new → Printed dt (37 ∷ cs) rest old new
    by_cases (Ok (item, more)) d h =
        record { item = item; joined = rw h.0 at d.0; is = rw h.0 at d.1; prints = h.1 }
    by_cases (Err r) d h = absurd h

-- one more item of what is printed
abbrev pub IsPrintedFront : DateTime → List ℕ → List ℕ → List ℕ → Type 0
IsPrintedFront dt text rest out = (items : List Item) × IsFront text items rest × (out ≡ print dt items)

pub printed_more : (dt : DateTime) (text rest next old new : List ℕ) (items : List Item) → IsFront text items rest → old ≡ print dt items
    → Printed dt rest next old new → IsPrintedFront dt text next new
printed_more dt text rest next old new items front bytes p = (
  items ++ (p.item ∷ []),
  front_more text items rest p.item next front p.joined p.is,
  p.prints ∙ ap (λ t. t ++ item_print dt p.item) bytes ∙ sym (print_more dt items p.item),
)

pub printed_shorter : (dt : DateTime) (rest next old new : List ℕ) → Printed dt rest next old new → length next < length rest
printed_shorter dt rest next old new p = rw p.joined (shorter p.item next)

-- characters that are not a per cent, each copied
pub copied_front : (dt : DateTime) (text cs more old : List ℕ) (items : List Item) → IsFront text items (cs ++ more)
    → NonePass (λ c. c == 37) cs → old ≡ print dt items → IsPrintedFront dt text more (old ++ encode_utf8_all cs)
unfolding item_print spelling
copied_front dt text [] more old items front none e = (items, front, append-nil old ∙ e)
copied_front dt text (c ∷ cs) more old items front none e =
    let item = literal c in
    let is : IsFront text (items ++ (item ∷ [])) (cs ++ more) = front_more text items (c ∷ (cs ++ more)) item (cs ++ more) front refl
    (other c none.0) in
    let printed : old ++ encode_utf8 c ≡ print dt (items ++ (item ∷ [])) = ap (λ t. t ++ encode_utf8 c) e
    ∙ sym (print_more dt items item) in
    let rest = copied_front dt text cs more (old ++ encode_utf8 c) (items ++ (item ∷ [])) is none.1 printed in
    (rest.0, rest.1, sym (append_assoc old (encode_utf8 c) (encode_utf8_all cs)) ∙ rest.2)
  where
    other : (c : ℕ) → (c == 37) ≡ false → c ≢ 37
    other c h = grind (arith, nat_tests)

-- the characters of a text, none of which passes
chars_pass : (p : ℕ → Bool) (bs : List ℕ) → IsUtf8 bs → NoCharPasses p bs → NonePass p (chars bs)
chars_pass p bs u (cs, e, none) = subst (NonePass p) (chars_from_encodes cs bs u e) none

-- a text, cut at its first per cent
pub record Cut (text copied following : List ℕ) : Type 0 where
  pub joined : chars text ≡ chars copied ++ (37 ∷ chars following)
  pub none : NonePass (λ c. c == 37) (chars copied)
  pub bytes : encode_utf8_all (chars copied) ≡ copied
  pub utf8 : IsUtf8 following

pub cut_at : (text : List ℕ) (r : Option (Bor (List ℕ) × Bor (List ℕ))) → IsUtf8 text → IsSplitOnceResult 37 text r
    → MatchOption r (NonePass (λ c. c == 37) (chars text)) (λ x. Cut text x.0.now x.1.now)
unfolding lib.Utf8.encode
cut_at text None u h = chars_pass _ text u h
cut_at text (Some x) u h =
    let parts : text ≡ x.0.now ++ (37 ∷ x.1.now) = (split_parts 37 text (Some x) h (omega arith)).0 in
    let end : IsCharBoundary text h.1 = subst (IsCharBoundary text) (sym h.2.1.ends) h.2.1.after in
    let following : IsUtf8 x.1.now = subst IsUtf8 (sym h.4) (IsUtf8-drop text h.1 u end) in
    let rest : IsUtf8 (37 ∷ x.1.now) = IsUtf8-append (37 ∷ []) x.1.now (IsUtf8-encode 37 (search rules)) following in
    let start : IsCharBoundary text h.0 = subst (IsCharBoundary text) h.6 (IsCharBoundary-at_seam text x.0.now (37 ∷ x.1.now) parts rest) in
    let copied : IsUtf8 x.0.now = subst IsUtf8 (sym h.3) (IsUtf8-take text h.0 u start) in
    record {
      joined = ap chars parts ∙ chars-append x.0.now (37 ∷ x.1.now) copied ∙ ap (λ t. chars x.0.now ++ t)
          (chars_past_char (37 ∷ x.1.now) x.1.now 37 rest refl);
      none = chars_pass (λ c. c == 37) x.0.now copied (subst (NoCharPasses (λ c. c == 37)) (sym h.3) h.2.0);
      bytes = encodes-chars x.0.now copied;
      utf8 = following;
    }

-- the text before the per cent, copied
pub cut_front : (dt : DateTime) (text rest copied following old : List ℕ) (items : List Item) → IsFront text items (chars rest)
    → old ≡ print dt items → Cut rest copied following → IsPrintedFront dt text (37 ∷ chars following) (old ++ copied)
cut_front dt text rest copied following old items front bytes cut =
    let p = copied_front dt text (chars copied) (37 ∷ chars following) old items
    (subst (IsFront text items) cut.joined front) cut.none bytes in
    (p.0, p.1, ap (λ t. old ++ t) (sym cut.bytes) ∙ p.2)

pub cut_shorter : (rest copied following next : List ℕ) → Cut rest copied following → length next < length (37 ∷ chars following)
    → length next < length (chars rest)
cut_shorter rest copied following next cut h =
    omega (arith, ap length cut.joined, length-append (chars copied) (37 ∷ chars following))

pub prints : (dt : DateTime) (text rest out : List ℕ) (items : List Item) → IsFront text items rest → out ≡ print dt items → rest ≡ []
    → FormatsTo dt text (Ok out)
prints dt text rest out items front bytes ends = (items, None, (rest, front, ends), ap Ok bytes)

-- a rest without a per cent, copied
pub copied_rest : (dt : DateTime) (text rest old : List ℕ) (items : List Item) → IsFront text items (chars rest) → old ≡ print dt items
    → IsUtf8 rest → NonePass (λ c. c == 37) (chars rest) → FormatsTo dt text (Ok (old ++ rest))
copied_rest dt text rest old items front bytes utf8 none =
    let p = copied_front dt text (chars rest) [] old items (subst (IsFront text items) (sym (append-nil (chars rest))) front) none bytes in
    prints dt text [] (old ++ rest) p.0 p.1 (ap (λ t. old ++ t) (sym (encodes-chars rest utf8)) ∙ p.2) refl

-- an error of a directive is an error of the text
refused_directive : (cs : List ℕ) (e : DateFormatError) (r : ItemRead) → Describes (37 ∷ cs) r → r ≡ Err e → IsRefused e (37 ∷ cs)
refused_directive cs e r d is = rw is at d

answer_refused : (e : DateFormatError) (P Q : Type 0) → (P → Q) → OnRefusal e P → OnRefusal e Q
answer_refused Memory P Q f h = tt
answer_refused NoFormatSpecifier P Q f h = f h
answer_refused NoFormatSpecifierAfterModifier P Q f h = f h
answer_refused InvalidWidth P Q f h = f h

pub refuses : (dt : DateTime) (text cs : List ℕ) (items : List Item) (e : DateFormatError) → IsFront text items (37 ∷ cs)
    → OnRefusal e (directive_at cs ≡ Err e) → OnRefusal e (FormatsTo dt text (Err e))
refuses dt text cs items e front h =
    answer_refused e (directive_at cs ≡ Err e) (FormatsTo dt text (Err e))
    (λ refused. (items, Some e, (37 ∷ cs, front, refused_directive cs e (directive_at cs) (directive_describes cs) refused), refl)) h

-- a pattern has one answer
pub formats_once : (dt : DateTime) (text : List ℕ) (a b : Result (List ℕ) DateFormatError) → FormatsTo dt text a → FormatsTo dt text b
    → a ≡ b
formats_once dt text a b (items, end, h, e) (items₂, end₂, k, f) =
    let same = one_reading text items items₂ end end₂ h k in
    e ∙ ap (λ i. answer_of dt i end) same.0 ∙ ap (λ n. answer_of dt items₂ n) same.1 ∙ sym f

pub refuses_only : (dt : DateTime) (text : List ℕ) (e : DateFormatError) (answer : Result (List ℕ) DateFormatError)
    → FormatsTo dt text answer → OnRefusal e (FormatsTo dt text (Err e)) → OnRefusal e (answer ≡ Err e)
refuses_only dt text e answer k h =
    answer_refused e (FormatsTo dt text (Err e)) (answer ≡ Err e) (λ refused. formats_once dt text answer (Err e) k refused) h
