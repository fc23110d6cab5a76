-- The reader reads what the relation of patterns says, and nothing else.
use Rattle.std.proofs.Common.{
  ◌≡◌,
  ◌≢◌,
  ◌⊎◌,
  inl,
  inr,
  ℕ,
  zero,
  suc,
  ◌^◌,
  ◌<◌,
  ◌≤◌,
  Bool,
  true,
  false,
  cond,
  ◌&&◌,
  List,
  [],
  ◌∷◌,
  ◌++◌,
  length,
  refl,
  sym,
  ap,
  ◌∙◌,
  arith,
  eqb,
  Option,
  Some,
  None,
  Ok,
  Err,
  nat_lt,
  append_assoc,
  length-append,
  ne_eqb,
  subst,
  append-nil,
}
use Rattle.std.specs.List.{list_all}
use Rattle.std.proofs.lemmas.Bool.{eqb-true, ltb-true}
use Rattle.std.proofs.lemmas.Bool.Decides.{nat_tests}
use Rattle.liquid_dates.specs.declared.error.DateFormatError.{DateFormatError}
use Rattle.liquid_dates.specs.declared.error.DateFormatError.TheVariants.{
  NoFormatSpecifier,
  NoFormatSpecifierAfterModifier,
  InvalidWidth,
  Memory,
}
use Rattle.liquid_dates.specs.meaning.Flags.{is_flag, is_digit, digits_number, is_modifier}
use Rattle.liquid_dates.specs.meaning.Pattern.{
  Item,
  literal,
  directive,
  spelling,
  begins,
  IsRun,
  IsModifier,
  IsLetter,
  IsDirective,
  IsItem,
  IsRefused,
  IsFront,
  IsReading,
}
use Rattle.liquid_dates.specs.steps.PatternReader.{
  front,
  following,
  after_second_colon,
  following_second_colon,
  after_colon,
  following_colon,
  letter_front,
  letter_after,
  ItemRead,
  letter_at,
  after_modifier,
  modifier_at,
  after_width,
  directive_at,
  item_at,
}
use Rattle.liquid_dates.proofs.PatternReaderLemmas.{after_width_fits, after_width_great}

-- the front and the rest after it are the text
front_join_test : (p : ℕ → Bool) (c : ℕ) (cs : List ℕ) (b : Bool) → front p cs ++ following p cs ≡ cs → cond b (c ∷ front p cs) []
    ++ cond b (following p cs) (c ∷ cs) ≡ c ∷ cs
front_join_test p c cs true e = ap (λ t. c ∷ t) e
front_join_test p c cs false e = refl

pub front_join : (p : ℕ → Bool) (cs : List ℕ) → front p cs ++ following p cs ≡ cs
front_join p [] = refl
front_join p (c ∷ cs) = front_join_test p c cs (p c) (front_join p cs)

run_test : (p : ℕ → Bool) (c : ℕ) (cs : List ℕ) (b : Bool) → p c ≡ b → IsRun p (front p cs) (following p cs)
    → IsRun p (cond b (c ∷ front p cs) []) (cond b (following p cs) (c ∷ cs))
run_test p c cs true e run = record { passes = rw e run.passes; ends = run.ends }
run_test p c cs false e run = record { passes = refl; ends = e }

pub front_run : (p : ℕ → Bool) (cs : List ℕ) → IsRun p (front p cs) (following p cs)
front_run p [] = record { passes = refl; ends = refl }
front_run p (c ∷ cs) = run_test p c cs _ refl (front_run p cs)

-- a run is the front
and_first : (a b : Bool) → (a && b) ≡ true → a ≡ true
and_first true b e = refl
and_first false b e = e

and_second : (a b : Bool) → (a && b) ≡ true → b ≡ true
and_second true b e = e
and_second false b e = cc

none_first : (p : ℕ → Bool) (rest : List ℕ) → begins p rest ≡ false → (front p rest ≡ []) × (following p rest ≡ rest)
none_first p [] e = (refl, refl)
none_first p (c ∷ cs) e = (rw e refl, rw e refl)

pub run_front : (p : ℕ → Bool) (run rest : List ℕ) → list_all p run ≡ true → begins p rest ≡ false → (front p (run ++ rest) ≡ run)
    × (following p (run ++ rest) ≡ rest)
run_front p [] rest passes ends = none_first p rest ends
run_front p (c ∷ cs) rest passes ends =
    let first : p c ≡ true = and_first _ _ passes in
    let more = run_front p cs rest (and_second _ _ passes) ends in
    (rw first (ap (λ t. c ∷ t) more.0), rw first more.1)

-- the letter and the rest after it are the text
abbrev IsSplit : List ℕ → List ℕ → List ℕ → Type 0
IsSplit letter rest text = (letter ++ rest ≡ text) × IsLetter letter rest

second_letter : (c d : ℕ) (ds : List ℕ) → c ≡ 58 → (b : Bool) → eqb d 58 ≡ b
    → IsSplit (58 ∷ cond b (58 ∷ after_second_colon ds) (d ∷ [])) (cond b (following_second_colon ds) ds) (c ∷ d ∷ ds)
second_letter c d [] e true t = let s = eqb-true d 58 t in (rw (e, s) refl, (refl, inr refl))
second_letter c d (x ∷ xs) e true t = let s = eqb-true d 58 t in (rw (e, s) refl, (refl, refl))
second_letter c d ds e false t = (rw e refl, (refl, inl (λ s. grind (arith, nat_tests))))

first_letter : (c : ℕ) (cs : List ℕ) (b : Bool) → eqb c 58 ≡ b → IsSplit (cond b (58 ∷ after_colon cs) (c ∷ []))
    (cond b (following_colon cs) cs) (c ∷ cs)
first_letter c [] true t = let s = eqb-true c 58 t in (rw s refl, inr refl)
first_letter c (d ∷ ds) true t = second_letter c d ds (eqb-true c 58 t) _ refl
first_letter c cs false t = (refl, inl (λ s. grind (arith, nat_tests)))

pub letter_split : (c : ℕ) (cs : List ℕ) → IsSplit (letter_front c cs) (letter_after c cs) (c ∷ cs)
letter_split c cs = first_letter c cs _ refl

-- the other way: a letter before a rest is read as that letter
pub record IsLetterRead (letter rest : List ℕ) : Type 0 where
  pub first : ℕ
  pub more : List ℕ
  pub is : letter ++ rest ≡ first ∷ more
  pub front_is : letter_front first more ≡ letter
  pub after_is : letter_after first more ≡ rest

one_letter : (c : ℕ) (rest : List ℕ) (b : Bool) → eqb c 58 ≡ b → (c ≢ 58) ⊎ (rest ≡ [])
    → (cond b (58 ∷ after_colon rest) (c ∷ []) ≡ c ∷ []) × (cond b (following_colon rest) rest ≡ rest)
one_letter c rest false t h = (refl, refl)
one_letter c rest true t (inl apart) = absurd (apart (eqb-true c 58 t))
one_letter c rest true t (inr empty) = (rw (empty, eqb-true c 58 t) refl, rw empty refl)

two_letters : (b : ℕ) (rest : List ℕ) (t : Bool) → eqb b 58 ≡ t → (b ≢ 58) ⊎ (rest ≡ [])
    → (cond t (58 ∷ after_second_colon rest) (b ∷ []) ≡ b ∷ []) × (cond t (following_second_colon rest) rest ≡ rest)
two_letters b rest false t h = (refl, refl)
two_letters b rest true t (inl apart) = absurd (apart (eqb-true b 58 t))
two_letters b rest true t (inr empty) = (rw (empty, eqb-true b 58 t) refl, rw empty refl)

pub letter_read : (letter rest : List ℕ) → IsLetter letter rest → IsLetterRead letter rest
letter_read [] rest h = absurd h
letter_read (c ∷ []) rest h =
    let is = one_letter c rest _ refl h in
    record { first = c; more = rest; is = refl; front_is = is.0; after_is = is.1 }
letter_read (a ∷ b ∷ []) rest h =
    let is = two_letters b rest _ refl h.1 in
    record { first = a; more = b ∷ rest; is = refl; front_is = rw h.0 (ap (λ t. 58 ∷ t) is.0); after_is = rw h.0 is.1 }
letter_read (a ∷ b ∷ c ∷ []) rest h =
    record { first = a; more = b ∷ c ∷ rest; is = refl; front_is = rw (h.0, h.1) refl; after_is = rw (h.0, h.1) refl }
letter_read (a ∷ b ∷ c ∷ d ∷ ds) rest h = absurd h

-- what the reader says about a text is true
abbrev pub Describes : List ℕ → ItemRead → Type 0
Describes text (Ok (item, rest)) = (text ≡ spelling item ++ rest) × IsItem item rest
Describes text (Err e) = IsRefused e text

pub spelling_join : (f w m t rest : List ℕ) → spelling (directive f w m t) ++ rest ≡ 37 ∷ (f ++ (w ++ (m ++ (t ++ rest))))
unfolding spelling
spelling_join f w m t rest = ap (λ u. 37 ∷ u) (simp append_assoc)

-- from the letter on
letter_describes : (f w m : List ℕ) (c : ℕ) (cs : List ℕ) → IsRun is_flag f (w ++ (m ++ (c ∷ cs))) → IsRun is_digit w (m ++ (c ∷ cs))
    → digits_number w < 2 ^ 64 → IsModifier m (c ∷ cs) → Describes (37 ∷ (f ++ (w ++ (m ++ (c ∷ cs))))) (letter_at f w m c cs)
letter_describes f w m c cs flags digits fits modifier =
    let (join, letter) = letter_split c cs in (
      rw (spelling_join f w m (letter_front c cs) (letter_after c cs), join) refl,
      record { of_flags = rw join flags; of_digits = rw join digits; of_width = fits; of_modifier = rw join modifier; of_letter = letter },
    )

after_modifier_describes : (f w : List ℕ) (m : ℕ) (cs : List ℕ) → IsRun is_flag f (w ++ (m ∷ cs)) → IsRun is_digit w (m ∷ cs)
    → digits_number w < 2 ^ 64 → is_modifier m ≡ true → Describes (37 ∷ (f ++ (w ++ (m ∷ cs)))) (after_modifier f w m cs)
after_modifier_describes f w m [] flags digits fits is =
    record { flags = f; digits = w; modifier = m; is = refl; of_flags = flags; of_digits = digits; of_width = fits; of_modifier = is }
after_modifier_describes f w m (c ∷ cs) flags digits fits is = letter_describes f w (m ∷ []) c cs flags digits fits is

modifier_describes : (f w : List ℕ) (c : ℕ) (cs : List ℕ) (b : Bool) → is_modifier c ≡ b → IsRun is_flag f (w ++ (c ∷ cs))
    → IsRun is_digit w (c ∷ cs) → digits_number w < 2 ^ 64 → Describes (37 ∷ (f ++ (w ++ (c ∷ cs))))
    (cond b (after_modifier f w c cs) (letter_at f w [] c cs))
modifier_describes f w c cs true is flags digits fits = after_modifier_describes f w c cs flags digits fits is
modifier_describes f w c cs false is flags digits fits = letter_describes f w [] c cs flags digits fits is

width_describes : (f w : List ℕ) (c : ℕ) (cs : List ℕ) (b : Bool) → nat_lt (digits_number w) (2 ^ 64) ≡ b
    → IsRun is_flag f (w ++ (c ∷ cs)) → IsRun is_digit w (c ∷ cs) → Describes (37 ∷ (f ++ (w ++ (c ∷ cs))))
    (cond b (modifier_at f w c cs) (Err InvalidWidth))
width_describes f w c cs true t flags digits =
    modifier_describes f w c cs _ refl flags digits (ltb-true _ _ t)
width_describes f w c cs false t flags digits =
    let great : 2 ^ 64 ≤ digits_number w = grind (arith, nat_tests) in
    record { flags = f; digits = w; next = c; rest = cs; is = refl; of_flags = flags; of_digits = digits; of_width = great }

after_width_describes : (f w rest : List ℕ) → IsRun is_flag f (w ++ rest) → IsRun is_digit w rest
    → Describes (37 ∷ (f ++ (w ++ rest))) (after_width f w rest)
after_width_describes f w [] flags digits =
    let ends = append-nil w in
    record { flags = f; digits = w; is = rw ends refl; of_flags = rw ends at flags; of_digits = digits }
after_width_describes f w (c ∷ cs) flags digits = width_describes f w c cs _ refl flags digits

pub directive_describes : (cs : List ℕ) → Describes (37 ∷ cs) (directive_at cs)
unfolding directive_at
directive_describes cs =
    let f = front is_flag cs in
    let a = following is_flag cs in
    let w = front is_digit a in
    let b = following is_digit a in
    let join_a : w ++ b ≡ a = front_join is_digit a in
    let join : f ++ a ≡ cs = front_join is_flag cs in
    let d : Describes (37 ∷ (f ++ (w ++ b))) (after_width f w b) = after_width_describes f w b (rw join_a (front_run is_flag cs))
    (front_run is_digit a) in
    subst (λ (t : List ℕ). Describes (37 ∷ t) (after_width f w b)) (ap (λ u. f ++ u) join_a ∙ join) d

item_describes_test : (c : ℕ) (cs : List ℕ) (b : Bool) → eqb c 37 ≡ b → Describes (c ∷ cs) (cond b (directive_at cs) (Ok (literal c, cs)))
unfolding spelling
item_describes_test c cs true t =
    subst (λ (d : ℕ). Describes (d ∷ cs) (directive_at cs)) (sym (eqb-true c 37 t)) (directive_describes cs)
item_describes_test c cs false t = (refl, λ s. grind (arith, nat_tests))

pub item_describes : (c : ℕ) (cs : List ℕ) → Describes (c ∷ cs) (item_at c cs)
unfolding item_at
item_describes c cs = item_describes_test c cs _ refl

-- what the reader says about a text that is not empty
abbrev pub read_at : List ℕ → Option ItemRead
read_at [] = None
read_at (c ∷ cs) = Some (item_at c cs)

modifier_read : (f w m t rest : List ℕ) → IsModifier m (t ++ rest) → IsLetterRead t rest → digits_number w < 2 ^ 64
    → after_width f w (m ++ (t ++ rest)) ≡ Ok (directive f w m t, rest)
modifier_read f w [] t rest h letter fits =
    let none : is_modifier letter.first ≡ false = rw letter.is at h in
    rw (letter.is, after_width_fits f w letter.first letter.more fits, none, letter.front_is, letter.after_is) refl
modifier_read f w (a ∷ []) t rest h letter fits =
    rw (after_width_fits f w a (t ++ rest) fits, h, letter.is, letter.front_is, letter.after_is) refl
modifier_read f w (a ∷ b ∷ m) t rest h letter fits = absurd h

pub directive_read : (f w m t rest : List ℕ) → IsDirective f w m t rest → directive_at (f ++ (w ++ (m ++ (t ++ rest)))) ≡ Ok
    (directive f w m t, rest)
unfolding directive_at
directive_read f w m t rest h =
    let flags = run_front is_flag f (w ++ (m ++ (t ++ rest))) h.of_flags.passes h.of_flags.ends in
    let digits = run_front is_digit w (m ++ (t ++ rest)) h.of_digits.passes h.of_digits.ends in
    rw (flags.0, flags.1, digits.0, digits.1) (modifier_read f w m t rest h.of_modifier (letter_read t rest h.of_letter) h.of_width)

-- an item before a rest is read as that item
pub item_read : (i : Item) (rest : List ℕ) → IsItem i rest → read_at (spelling i ++ rest) ≡ Some (Ok (i, rest))
unfolding spelling item_at
item_read (literal c) rest h = ap Some (rw (ne_eqb c 37 h) refl)
item_read (directive f w m t) rest h =
    let text : f ++ (w ++ (m ++ t)) ++ rest ≡ f ++ (w ++ (m ++ (t ++ rest))) = simp append_assoc in
    ap Some (rw text (directive_read f w m t rest h))

-- a rest that is refused is read as that refusal
refused_read : (e : DateFormatError) (text : List ℕ) → IsRefused e text → read_at text ≡ Some (Err e)
unfolding item_at directive_at
refused_read NoFormatSpecifier text h =
    let flags = run_front is_flag h.flags h.digits h.of_flags.passes h.of_flags.ends in
    let digits = run_front is_digit h.digits [] h.of_digits.passes h.of_digits.ends in
    let none = append-nil h.digits in
    let front_is : front is_digit h.digits ≡ h.digits = ap (front is_digit) (sym none) ∙ digits.0 in
    let after_is : following is_digit h.digits ≡ [] = ap (following is_digit) (sym none) ∙ digits.1 in
    rw h.is (ap Some (rw (flags.0, flags.1, front_is, after_is) refl))
refused_read NoFormatSpecifierAfterModifier text h =
    let flags = run_front is_flag h.flags (h.digits ++ (h.modifier ∷ [])) h.of_flags.passes h.of_flags.ends in
    let digits = run_front is_digit h.digits (h.modifier ∷ []) h.of_digits.passes h.of_digits.ends in
    rw h.is (ap Some (rw (
      flags.0,
      flags.1,
      digits.0,
      digits.1,
      after_width_fits h.flags h.digits h.modifier [] h.of_width,
      h.of_modifier,
    ) refl))
refused_read InvalidWidth text h =
    let flags = run_front is_flag h.flags (h.digits ++ (h.next ∷ h.rest)) h.of_flags.passes h.of_flags.ends in
    let digits = run_front is_digit h.digits (h.next ∷ h.rest) h.of_digits.passes h.of_digits.ends in
    rw h.is (ap Some (rw (flags.0, flags.1, digits.0, digits.1, after_width_great h.flags h.digits h.next h.rest h.of_width) refl))
refused_read Memory text h = absurd h

-- a reading's first step, as the reader gives it
abbrev Begins : List ℕ → List Item → Option DateFormatError → Type 0
Begins text [] None = read_at text ≡ None
Begins text [] (Some e) = read_at text ≡ Some (Err e)
Begins text (i ∷ items) end = (more : List ℕ) × (read_at text ≡ Some (Ok (i, more))) × IsReading more items end

begins_is : (text : List ℕ) (items : List Item) (end : Option DateFormatError) → IsReading text items end → Begins text items end
unfolding IsFront
begins_is text [] None (rest, is, ends) = ap read_at (is ∙ ends)
begins_is text [] (Some e) (rest, is, ends) = rw is (refused_read e rest ends)
begins_is text (i ∷ items) end (rest, (more, is, item, front), ends) =
    (more, rw is (item_read i more item), (rest, front, ends))

-- the item and the rest of what was read
item_or : Item → Option ItemRead → Item
item_or other None = other
item_or other (Some (Err e)) = other
item_or other (Some (Ok (i, more))) = i

rest_or : List ℕ → Option ItemRead → List ℕ
rest_or other None = other
rest_or other (Some (Err e)) = other
rest_or other (Some (Ok (i, more))) = more

-- a text has one reading at most
abbrev pub Same : List Item → Option DateFormatError → List Item → Option DateFormatError → Type 0
Same items end items₂ end₂ = (items ≡ items₂) × (end ≡ end₂)

pub one_reading : (text : List ℕ) (items items₂ : List Item) (end end₂ : Option DateFormatError) → IsReading text items end
    → IsReading text items₂ end₂ → Same items end items₂ end₂
unfolding item_or rest_or
one_reading text [] [] None None h k = (refl, refl)
one_reading text [] [] None (Some e₂) h k =
    let a = begins_is text [] None h in let b = begins_is text [] (Some e₂) k in cc
one_reading text [] [] (Some e) None h k =
    let a = begins_is text [] (Some e) h in let b = begins_is text [] None k in cc
one_reading text [] [] (Some e) (Some e₂) h k =
    let a = begins_is text [] (Some e) h in let b = begins_is text [] (Some e₂) k in (refl, cc)
one_reading text [] (j ∷ items₂) None end₂ h k =
    let a = begins_is text [] None h in let b = (begins_is text (j ∷ items₂) end₂ k).1 in cc
one_reading text [] (j ∷ items₂) (Some e) end₂ h k =
    let a = begins_is text [] (Some e) h in let b = (begins_is text (j ∷ items₂) end₂ k).1 in cc
one_reading text (i ∷ items) [] end None h k =
    let a = (begins_is text (i ∷ items) end h).1 in let b = begins_is text [] None k in cc
one_reading text (i ∷ items) [] end (Some e₂) h k =
    let a = (begins_is text (i ∷ items) end h).1 in let b = begins_is text [] (Some e₂) k in cc
one_reading text (i ∷ items) (j ∷ items₂) end end₂ h k =
    let (more, a, h') = begins_is text (i ∷ items) end h in
    let (more₂, b, k') = begins_is text (j ∷ items₂) end₂ k in
    let item : i ≡ j = ap (item_or i) (sym a ∙ b) in
    let rest : more ≡ more₂ = ap (rest_or more) (sym a ∙ b) in
    let same = one_reading more items items₂ end end₂ h' (rw rest k') in
    (rw (item, same.0) refl, same.1)

-- and it has one
pub record Reading (text : List ℕ) : Type 0 where
  pub items : List Item
  pub end : Option DateFormatError
  pub is : IsReading text items end

pub shorter : (i : Item) (rest : List ℕ) → length rest < length (spelling i ++ rest)
unfolding spelling
shorter (literal c) rest = omega arith
shorter (directive f w m t) rest = omega (arith, length-append (f ++ (w ++ (m ++ t))) rest)

reading_from : (text : List ℕ) (r : ItemRead) → Describes text r
    → ((i : Item) (more : List ℕ) → length more < length text → Reading more) → Reading text
unfolding IsFront
reading_from text (Ok (i, more)) h next =
    let rest = next i more (rw h.0 (shorter i more)) in
    let (last, front, ends) = rest.is in
    record { items = i ∷ rest.items; end = rest.end; is = (last, (more, h.0, h.1, front), ends) }
reading_from text (Err e) h next = record { items = []; end = Some e; is = (text, refl, h) }

reading_below : (n : ℕ) (text : List ℕ) → length text ≤ n → Reading text
unfolding IsFront
reading_below n [] h = record { items = []; end = None; is = ([], refl, refl) }
reading_below zero (c ∷ cs) h = absurd (omega arith)
reading_below (suc n) (c ∷ cs) h =
    reading_from (c ∷ cs) (item_at c cs) (item_describes c cs) (λ i more l. reading_below n more (omega arith))

pub some_reading : (text : List ℕ) → Reading text
some_reading text = reading_below (length text) text (omega arith)

-- one more item of a front
pub front_more : (text : List ℕ) (items : List Item) (rest : List ℕ) (i : Item) (more : List ℕ) → IsFront text items rest
    → rest ≡ spelling i ++ more → IsItem i more → IsFront text (items ++ (i ∷ [])) more
unfolding IsFront
front_more text [] rest i more front is item = (more, front ∙ is, item, refl)
front_more text (j ∷ items) rest i more (next, joined, first, front) is item =
    (next, joined, first, front_more next items rest i more front is item)
