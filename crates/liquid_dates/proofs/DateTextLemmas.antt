-- The readers of date texts read what the forms relate, and nothing else.
use Rattle.std.proofs.Common.{
  ◌≡◌,
  ◌⊎◌,
  inl,
  inr,
  ℕ,
  zero,
  suc,
  ◌+◌,
  ◌-◌,
  ◌*◌,
  ◌/◌,
  ◌%◌,
  ◌<◌,
  ◌≤◌,
  Bool,
  true,
  false,
  cond,
  ◌&&◌,
  List,
  [],
  ◌∷◌,
  ◌++◌,
  length,
  take,
  drop,
  refl,
  sym,
  ap,
  ◌∙◌,
  arith,
  eqb,
  Option,
  Some,
  None,
  option_map,
  nat_lt,
  append_assoc,
  append-nil,
  ℤ,
  pos,
  neg_ℤ,
  subst,
  unwrap_or,
}
use Rattle.std.specs.Option.{option_and_then}
use Rattle.std.specs.Str.{bytes_eq}
use Rattle.std.proofs.lemmas.Bool.{eqb-true}
use Rattle.std.proofs.lemmas.Bool.Decides.{nat_tests}
use Rattle.std.proofs.lemmas.Slice.Eq.{bytes_eq-Decides}
use Rattle.std.proofs.lemmas.List.{take-append-drop}
use Rattle.liquid_dates.specs.meaning.Flags.{is_digit}
use Rattle.liquid_dates.specs.meaning.Names.{month_name, short_month_name, weekday_name, short_weekday_name}
use Rattle.liquid_dates.specs.meaning.Printed.{two_digits, four_digits}
use Rattle.liquid_dates.specs.meaning.Pattern.{begins}
use Rattle.liquid_dates.proofs.PairForms.{joined, two_below, year_form, month_form, weekday_form, dashed, day_month, slashed, clock}
use Rattle.liquid_dates.specs.steps.DateReader.{
  Read,
  after_byte,
  read_two_digits,
  read_four_digits,
  year_after,
  read_year,
  joined_at,
  whole_of,
  find_name,
  read_short_name,
  following_text,
  read_month,
  read_short_month,
  read_weekday,
  read_iso_date,
  read_long_date,
  read_short_date,
  read_us_date,
  read_clock,
}

-- a reader reads a form: what it reads has that form, and a text of that form is read before a rest that does not begin
-- with a digit
pub record Reads {A : Type 0} (F : List ℕ → A → Type 0) (r : List ℕ → Read A) : Type 0 where
  pub sound : (text : List ℕ) (a : A) (rest : List ℕ) → r text ≡ Some (a, rest) → (front : List ℕ) × (text ≡ front ++ rest) × F front a
  pub complete : (front : List ℕ) (a : A) (rest : List ℕ) → F front a → begins is_digit rest ≡ false → r (front ++ rest) ≡ Some (a, rest)

-- the value that was read, or another one
abbrev value_or : {A : Type 0} → A → Read A → A
value_or other None = other
value_or other (Some p) = p.0

abbrev rest_or : {A : Type 0} → List ℕ → Read A → List ℕ
rest_or other None = other
rest_or other (Some p) = p.1

pub some_pair : {A : Type 0} (a b : A) (s t : List ℕ) (o p : Read A) → o ≡ Some (a, s) → p ≡ Some (b, t) → o ≡ p → (a ≡ b) × (s ≡ t)
some_pair a b s t o p e f g =
    let same = sym e ∙ g ∙ f in
    (ap (value_or a) same, ap (rest_or s) same)

-- what a step of a reader took
pub bind_some : {A B : Type 0} (o : Option A) (f : A → Option B) (b : B) → option_and_then f o ≡ Some b → (a : A) × (o ≡ Some a)
    × (f a ≡ Some b)
bind_some None f b e = cc
bind_some (Some a) f b e = (a, refl, e)

pub map_some : {A B : Type 0} (o : Option A) (f : A → B) (b : B) → option_map f o ≡ Some b → (a : A) × (o ≡ Some a) × (f a ≡ b)
map_some None f b e = cc
map_some (Some a) f b e = (a, refl, cc)

after_byte_test : (byte c : ℕ) (cs rest : List ℕ) (b : Bool) → eqb c byte ≡ b → cond b (Some cs) None ≡ Some rest → c ∷ cs ≡ byte ∷ rest
after_byte_test byte c cs rest true t e =
    let same : cs ≡ rest = cc in
    rw (eqb-true c byte t, same) refl
after_byte_test byte c cs rest false t e = cc

pub after_byte_is : (byte : ℕ) (text rest : List ℕ) → after_byte byte text ≡ Some rest → text ≡ byte ∷ rest
after_byte_is byte [] rest e = cc
after_byte_is byte (c ∷ cs) rest e = after_byte_test byte c cs rest _ refl e

pub after_byte_here : (byte : ℕ) (rest : List ℕ) → after_byte byte (byte ∷ rest) ≡ Some rest
after_byte_here byte rest = let same : eqb byte byte ≡ true = grind (arith, nat_tests) in rw same refl

-- two digits
two_value : (a b limit : ℕ) (t : Bool) → (is_digit a && (is_digit b && nat_lt (10 * (a - 48) + (b - 48)) limit)) ≡ true
    → (10 * (a - 48) + (b - 48) < limit) × (a ≡ 48 + (10 * (a - 48) + (b - 48)) / 10) × (b ≡ 48 + (10 * (a - 48) + (b - 48)) % 10)
two_value a b limit t e = (grind (arith, nat_tests), grind (arith, nat_tests), grind (arith, nat_tests))

two_sound_test : (limit a b n : ℕ) (cs rest : List ℕ) (t : Bool)
    → (is_digit a && (is_digit b && nat_lt (10 * (a - 48) + (b - 48)) limit)) ≡ t
    → cond {A = Read ℕ} t (Some (10 * (a - 48) + (b - 48), cs)) None ≡ Some (n, rest) → (front : List ℕ) × (a ∷ b ∷ cs ≡ front ++ rest)
    × two_below limit front n
two_sound_test limit a b n cs rest false t e = cc
two_sound_test limit a b n cs rest true t e =
    let v = two_value a b limit true t in
    let pair = some_pair (10 * (a - 48) + (b - 48)) n cs rest _ _ refl refl e in
    let number : 10 * (a - 48) + (b - 48) ≡ n = pair.0 in
    let same : cs ≡ rest = pair.1 in
    let tens : a ≡ 48 + n / 10 = omega arith in
    let ones : b ≡ 48 + n % 10 = omega arith in
    (two_digits n, rw (← tens, ← ones, same) refl, (omega arith, refl))

pub two_at_digits : (limit n : ℕ) (rest : List ℕ) → limit ≤ 100 → n < limit → read_two_digits limit (two_digits n ++ rest) ≡ Some (n, rest)
unfolding read_two_digits
two_at_digits limit n rest h l =
    let value : 10 * (48 + n / 10 - 48) + (48 + n % 10 - 48) ≡ n = omega arith in
    let test : (is_digit (48 + n / 10) && (is_digit (48 + n % 10) && nat_lt n limit)) ≡ true = grind (arith, nat_tests) in
    rw (value, test) refl

pub two_sound : (limit : ℕ) (text : List ℕ) (n : ℕ) (rest : List ℕ) → read_two_digits limit text ≡ Some (n, rest) → (front : List ℕ)
    × (text ≡ front ++ rest) × two_below limit front n
unfolding read_two_digits
two_sound limit [] n rest e = cc
two_sound limit (a ∷ []) n rest e = cc
two_sound limit (a ∷ b ∷ cs) n rest e = two_sound_test limit a b n cs rest _ refl e

pub two_reads : (limit : ℕ) → limit ≤ 100 → Reads (two_below limit) (read_two_digits limit)
two_reads limit h = record {
  sound = two_sound limit;
  complete = λ front n rest f ends. rw f.1 (two_at_digits limit n rest h f.0);
}

-- a form, a byte that is not a digit, and a form after it
joined_sound : {A B : Type 0} (F : List ℕ → A → Type 0) (r : List ℕ → Read A) (byte : ℕ) (G : List ℕ → B → Type 0) (q : List ℕ → Read B)
    → Reads F r → Reads G q → (text : List ℕ) (a : A) (b : B) (rest : List ℕ) → joined_at r byte q text ≡ Some ((a, b), rest)
    → (front : List ℕ) × (text ≡ front ++ rest) × joined F byte G front (a, b)
joined_sound {A = A} {B = B} F r byte G q hf hg text a b rest e =
    let (x, ex, e1) = bind_some (r text) _ _ e in
    let (more, em, e2) = bind_some (after_byte byte x.1) _ _ e1 in
    let (y, ey, e3) = bind_some (q more) _ _ e2 in
    let first : x.0 ≡ a = ap (λ (o : Option ((A × B) × List ℕ)). pair_first x.0 o) e3 in
    let second : y.0 ≡ b = ap (λ (o : Option ((A × B) × List ℕ)). pair_second y.0 o) e3 in
    let last : y.1 ≡ rest = ap (λ (o : Option ((A × B) × List ℕ)). pair_rest y.1 o) e3 in
    let (front, is, f) = hf.sound text x.0 x.1 ex in
    let (back, is₂, g) = hg.sound more y.0 y.1 ey in
    let between = after_byte_is byte x.1 more em in (
      front ++ (byte ∷ back),
      is ∙ ap (λ t. front ++ t) (between ∙ ap (λ t. byte ∷ t) (is₂ ∙ ap (λ t. back ++ t) last))
          ∙ sym (append_assoc front (byte ∷ back) rest),
      (front, back, refl, subst (λ (v : A). F front v) first f, subst (λ (v : B). G back v) second g),
    )
  where
    pair_first : A → Option ((A × B) × List ℕ) → A
    pair_first other None = other
    pair_first other (Some p) = p.0.0

    pair_second : B → Option ((A × B) × List ℕ) → B
    pair_second other None = other
    pair_second other (Some p) = p.0.1

    pair_rest : List ℕ → Option ((A × B) × List ℕ) → List ℕ
    pair_rest other None = other
    pair_rest other (Some p) = p.1

joined_complete : {A B : Type 0} (F : List ℕ → A → Type 0) (r : List ℕ → Read A) (byte : ℕ) (G : List ℕ → B → Type 0)
    (q : List ℕ → Read B) → Reads F r → Reads G q → is_digit byte ≡ false → (front : List ℕ) (a : A) (b : B) (rest : List ℕ)
    → joined F byte G front (a, b) → begins is_digit rest ≡ false → joined_at r byte q (front ++ rest) ≡ Some ((a, b), rest)
joined_complete F r byte G q hf hg apart front a b rest (s, u, is, f, g) ends =
    let text : front ++ rest ≡ s ++ (byte ∷ (u ++ rest)) = rw is (append_assoc s (byte ∷ u) rest) in
    rw (text, hf.complete s a (byte ∷ (u ++ rest)) f apart, after_byte_here byte (u ++ rest), hg.complete u b rest g ends) refl

pub joined_reads : {A B : Type 0} (F : List ℕ → A → Type 0) (r : List ℕ → Read A) (byte : ℕ) (G : List ℕ → B → Type 0)
    (q : List ℕ → Read B) → Reads F r → Reads G q → is_digit byte ≡ false → Reads (joined F byte G) (joined_at r byte q)
joined_reads F r byte G q hf hg apart = record {
  sound = λ text p rest e. joined_sound F r byte G q hf hg text p.0 p.1 rest e;
  complete = λ front p rest f ends. joined_complete F r byte G q hf hg apart front p.0 p.1 rest f ends;
}

-- a whole text
pub whole_sound : {A : Type 0} (F : List ℕ → A → Type 0) (r : List ℕ → Read A) → Reads F r → (text : List ℕ) (a : A)
    → whole_of (r text) ≡ Some a → F text a
whole_sound {A = A} F r h text a e = by_cases (r text) refl e
  where
    by_cases : (o : Read A) → r text ≡ o → whole_of o ≡ Some a → F text a
    by_cases None t e = cc
    by_cases (Some (x, c ∷ cs)) t e = cc
    by_cases (Some (x, [])) t e =
        let (front, is, f) = h.sound text x [] t in
        let same : x ≡ a = cc in
        subst (λ (v : A). F text v) same (subst (λ (s : List ℕ). F s x) (sym (is ∙ append-nil front)) f)

pub whole_complete : {A : Type 0} (F : List ℕ → A → Type 0) (r : List ℕ → Read A) → Reads F r → (text : List ℕ) (a : A) → F text a
    → whole_of (r text) ≡ Some a
whole_complete F r h text a f =
    let read : r (text ++ []) ≡ Some (a, []) = h.complete text a [] f refl in
    ap whole_of (ap r (sym (append-nil text)) ∙ read)

-- four digits, and a year
abbrev four_form : List ℕ → ℕ → Type 0
four_form text n = (n < 10000) × (text ≡ four_digits n)

four_sound : (text : List ℕ) (n : ℕ) (rest : List ℕ) → read_four_digits text ≡ Some (n, rest) → (front : List ℕ) × (text ≡ front ++ rest)
    × four_form front n
unfolding read_four_digits
four_sound text n rest e =
    let (x, ex, e1) = bind_some (read_two_digits 100 text) _ _ e in
    let (y, ey, e2) = bind_some (read_two_digits 100 x.1) _ _ e1 in
    let (s, is, f) = two_sound 100 text x.0 x.1 ex in
    let (u, is₂, g) = two_sound 100 x.1 y.0 y.1 ey in
    let pair = some_pair (100 * x.0 + y.0) n y.1 rest _ _ refl refl e2 in
    let number : 100 * x.0 + y.0 ≡ n = pair.0 in
    let last : y.1 ≡ rest = pair.1 in
    let century : n / 100 ≡ x.0 = omega (arith, f.0, g.0) in
    let year : n % 100 ≡ y.0 = omega (arith, f.0, g.0) in
    let small : n < 10000 = omega (arith, f.0, g.0) in
    let joined_text : s ++ u ≡ four_digits n = rw (f.1, g.1, century, year) refl in (
      four_digits n,
      is ∙ ap (λ t. s ++ t) (is₂ ∙ ap (λ t. u ++ t) last) ∙ sym (append_assoc s u rest) ∙ ap (λ t. t ++ rest) joined_text,
      (small, refl),
    )

pub four_at_digits : (n : ℕ) (rest : List ℕ) → n < 10000 → read_four_digits (four_digits n ++ rest) ≡ Some (n, rest)
unfolding read_four_digits
four_at_digits n rest h =
    let text : four_digits n ++ rest ≡ two_digits (n / 100) ++ (two_digits (n % 100) ++ rest) =
    append_assoc (two_digits (n / 100)) (two_digits (n % 100)) rest in
    let century : n / 100 < 100 = omega arith in
    let year : n % 100 < 100 = omega arith in
    let value : 100 * (n / 100) + n % 100 ≡ n = omega arith in
    rw (
      text,
      two_at_digits 100 (n / 100) (two_digits (n % 100) ++ rest) (omega arith) century,
      two_at_digits 100 (n % 100) rest
          (omega arith) year,
      value,
    ) refl

year_sound : (text : List ℕ) (o : Option (List ℕ)) → after_byte 45 text ≡ o → (y : ℤ) (rest : List ℕ)
    → year_after o text ≡ Some (y, rest) → (front : List ℕ) × (text ≡ front ++ rest) × year_form front y
year_sound text None t y rest e =
    let (x, ex, e1) = map_some (read_four_digits text) _ _ e in
    let (s, is, f) = four_sound text x.0 x.1 ex in
    let pair = some_pair (pos x.0) y x.1 rest (Some (pos x.0, x.1)) (Some (y, rest)) refl refl (ap Some e1) in
    (s, is ∙ ap (λ t. s ++ t) pair.1, (x.0, f.0, inl (f.1, sym pair.0)))
year_sound text (Some following) t y rest e =
    let (x, ex, e1) = map_some (read_four_digits following) _ _ e in
    let (s, is, f) = four_sound following x.0 x.1 ex in
    let pair = some_pair (neg_ℤ (pos x.0)) y x.1 rest (Some (neg_ℤ (pos x.0), x.1)) (Some (y, rest)) refl refl (ap Some e1) in (
      45 ∷ s,
      after_byte_is 45 text following t ∙ ap (λ t. 45 ∷ t) (is ∙ ap (λ t. s ++ t) pair.1),
      (x.0, f.0, inr (ap (λ t. 45 ∷ t) f.1, sym pair.0)),
    )

pub year_reads : Reads year_form read_year
unfolding read_year
year_reads = record {
  sound = λ text y rest e. year_sound text (after_byte 45 text) refl y rest e;
  complete = λ front y rest f ends. year_complete front y rest f.0 f.1 f.2;
}
  where
    year_complete : (front : List ℕ) (y : ℤ) (rest : List ℕ) (n : ℕ) → n < 10000 → ((front ≡ four_digits n) × (y ≡ pos n)) ⊎
        ((front ≡ 45 ∷ four_digits n) × (y ≡ neg_ℤ (pos n))) → read_year (front ++ rest) ≡ Some (y, rest)
    year_complete front y rest n h (inl (is, value)) =
        let plain : eqb (48 + n / 100 / 10) 45 ≡ false = grind (arith, nat_tests) in
        rw (is, value, plain, four_at_digits n rest h) refl
    year_complete front y rest n h (inr (is, value)) = rw (is, value, four_at_digits n rest h) refl

-- a name that was found is the name of a number in the range
find_some : (name : ℕ → List ℕ) (front : List ℕ) (n m k : ℕ) → find_name name front n m ≡ Some k → (m ≤ k) × (k < m + n) × (name k ≡ front)
unfolding find_name
find_some name front zero m k e = cc
find_some name front (suc n) m k e = by_test (find_some name front n (m + 1) k) (bytes_eq (name m) front) refl e
  where
    by_test : (find_name name front n (m + 1) ≡ Some k → (m + 1 ≤ k) × (k < m + 1 + n) × (name k ≡ front)) → (b : Bool)
        → bytes_eq (name m) front ≡ b → cond b (Some m) (find_name name front n (m + 1)) ≡ Some k → (m ≤ k) × (k < m + suc n)
        × (name k ≡ front)
    by_test next true t e =
        let same : m ≡ k = ap (λ (o : Option ℕ). unwrap_or o m) e in
        (omega arith, omega arith, ap name (sym same) ∙ (bytes_eq-Decides (name m) front).0 t)
    by_test next false t e = let later = next e in (omega arith, omega arith, later.2)

short_name_sound : (name : ℕ → List ℕ) (count m : ℕ) (text : List ℕ) (k : ℕ) (rest : List ℕ)
    → read_short_name name count m text ≡ Some (k, rest) → (text ≡ name k ++ rest) × (m ≤ k) × (k < m + count)
unfolding read_short_name
short_name_sound name count m [] k rest e = cc
short_name_sound name count m (a ∷ []) k rest e = cc
short_name_sound name count m (a ∷ b ∷ []) k rest e = cc
short_name_sound name count m (a ∷ b ∷ c ∷ cs) k rest e =
    let (j, ej, e1) = map_some (find_name name (a ∷ b ∷ c ∷ []) count m) _ _ e in
    let found = find_some name (a ∷ b ∷ c ∷ []) count m j ej in
    let pair = some_pair j k cs rest (Some (j, cs)) (Some (k, rest)) refl refl (ap Some e1) in (
      ap (λ t. t ++ cs) (sym found.2) ∙ ap (λ i. name i ++ cs) pair.0 ∙ ap (λ t. name k ++ t) pair.1,
      omega (arith, pair.0),
      omega (arith, pair.0),
    )

short_month_here : (m : ℕ) (rest : List ℕ) → 1 ≤ m → m ≤ 12 → read_short_month (short_month_name m ++ rest) ≡ Some (m, rest)
unfolding read_short_name find_name short_month_name month_name
short_month_here zero rest l h = absurd (omega arith)
short_month_here (suc zero) rest l h = refl
short_month_here (suc (suc zero)) rest l h = refl
short_month_here (suc (suc (suc zero))) rest l h = refl
short_month_here (suc (suc (suc (suc zero)))) rest l h = refl
short_month_here (suc (suc (suc (suc (suc zero))))) rest l h = refl
short_month_here (suc (suc (suc (suc (suc (suc zero)))))) rest l h = refl
short_month_here (suc (suc (suc (suc (suc (suc (suc zero))))))) rest l h = refl
short_month_here (suc (suc (suc (suc (suc (suc (suc (suc zero)))))))) rest l h = refl
short_month_here (suc (suc (suc (suc (suc (suc (suc (suc (suc zero))))))))) rest l h = refl
short_month_here (suc (suc (suc (suc (suc (suc (suc (suc (suc (suc zero)))))))))) rest l h = refl
short_month_here (suc (suc (suc (suc (suc (suc (suc (suc (suc (suc (suc zero))))))))))) rest l h = refl
short_month_here (suc (suc (suc (suc (suc (suc (suc (suc (suc (suc (suc (suc zero)))))))))))) rest l h = refl
short_month_here (suc (suc (suc (suc (suc (suc (suc (suc (suc (suc (suc (suc (suc m))))))))))))) rest l h = absurd (omega arith)

month_here : (m : ℕ) (rest : List ℕ) → 1 ≤ m → m ≤ 12 → read_month (month_name m ++ rest) ≡ Some (m, rest)
unfolding read_month following_text read_short_name find_name short_month_name month_name
month_here zero rest l h = absurd (omega arith)
month_here (suc zero) rest l h = refl
month_here (suc (suc zero)) rest l h = refl
month_here (suc (suc (suc zero))) rest l h = refl
month_here (suc (suc (suc (suc zero)))) rest l h = refl
month_here (suc (suc (suc (suc (suc zero))))) rest l h = refl
month_here (suc (suc (suc (suc (suc (suc zero)))))) rest l h = refl
month_here (suc (suc (suc (suc (suc (suc (suc zero))))))) rest l h = refl
month_here (suc (suc (suc (suc (suc (suc (suc (suc zero)))))))) rest l h = refl
month_here (suc (suc (suc (suc (suc (suc (suc (suc (suc zero))))))))) rest l h = refl
month_here (suc (suc (suc (suc (suc (suc (suc (suc (suc (suc zero)))))))))) rest l h = refl
month_here (suc (suc (suc (suc (suc (suc (suc (suc (suc (suc (suc zero))))))))))) rest l h = refl
month_here (suc (suc (suc (suc (suc (suc (suc (suc (suc (suc (suc (suc zero)))))))))))) rest l h = refl
month_here (suc (suc (suc (suc (suc (suc (suc (suc (suc (suc (suc (suc (suc m))))))))))))) rest l h = absurd (omega arith)

weekday_here : (w : ℕ) (rest : List ℕ) → w < 7 → read_weekday (short_weekday_name w ++ rest) ≡ Some (w, rest)
unfolding read_short_name find_name short_weekday_name weekday_name
weekday_here zero rest h = refl
weekday_here (suc zero) rest h = refl
weekday_here (suc (suc zero)) rest h = refl
weekday_here (suc (suc (suc zero))) rest h = refl
weekday_here (suc (suc (suc (suc zero)))) rest h = refl
weekday_here (suc (suc (suc (suc (suc zero))))) rest h = refl
weekday_here (suc (suc (suc (suc (suc (suc zero)))))) rest h = refl
weekday_here (suc (suc (suc (suc (suc (suc (suc w))))))) rest h = absurd (omega arith)

pub short_month_reads : Reads (month_form short_month_name) read_short_month
short_month_reads = record {
  sound = λ text m rest e. let s = short_name_sound short_month_name 12 1 text m rest e in (
    short_month_name m,
    s.0,
    ((s.1, omega (arith, s.2)), refl),
  );
  complete = λ front m rest f ends. rw f.1 (short_month_here m rest f.0.0 f.0.1);
}

pub weekday_reads : Reads weekday_form read_weekday
weekday_reads = record {
  sound = λ text w rest e. let s = short_name_sound short_weekday_name 7 0 text w rest e in (
    short_weekday_name w,
    s.0,
    (omega (arith, s.2), refl),
  );
  complete = λ front w rest f ends. rw f.1 (weekday_here w rest f.0);
}

after_text_is : (text all rest : List ℕ) → following_text text all ≡ Some rest → all ≡ text ++ rest
unfolding following_text
after_text_is text all rest e = by_test (bytes_eq (take (length text) all) text) refl e
  where
    by_test : (b : Bool) → bytes_eq (take (length text) all) text ≡ b → cond b (Some (drop (length text) all)) None ≡ Some rest
        → all ≡ text ++ rest
    by_test false t e = cc
    by_test true t e =
        let same : drop (length text) all ≡ rest = ap (λ (o : Option (List ℕ)). unwrap_or o rest) e in
        sym (take-append-drop (length text) all) ∙ ap (λ u. u ++ drop (length text) all)
        ((bytes_eq-Decides (take (length text) all) text).0 t) ∙ ap (λ u. text ++ u) same

month_sound : (text : List ℕ) (m : ℕ) (rest : List ℕ) → read_month text ≡ Some (m, rest)
    → (text ≡ month_name m ++ rest) × (1 ≤ m) × (m < 13)
unfolding read_month short_month_name
month_sound text m rest e =
    let (x, ex, e1) = bind_some (read_short_month text) _ _ e in
    let (more, em, e2) = bind_some (following_text (drop 3 (month_name x.0)) x.1) _ _ e1 in
    let pair = some_pair x.0 m more rest (Some (x.0, more)) (Some (m, rest)) refl refl e2 in
    let s = short_name_sound short_month_name 12 1 text x.0 x.1 ex in
    let tail = after_text_is (drop 3 (month_name x.0)) x.1 more em in
    let name : take 3 (month_name x.0) ++ drop 3 (month_name x.0) ≡ month_name x.0 = take-append-drop 3 (month_name x.0) in (
      s.0 ∙ ap (λ t. take 3 (month_name x.0) ++ t) tail ∙ sym (append_assoc (take 3 (month_name x.0)) (drop 3 (month_name x.0)) more)
          ∙ ap (λ t. t ++ more) name ∙ ap (λ i. month_name i ++ more) pair.0 ∙ ap (λ t. month_name m ++ t) pair.1,
      omega (arith, pair.0, s.1),
      omega (arith, pair.0, s.2),
    )

pub month_reads : Reads (month_form month_name) read_month
month_reads = record {
  sound = λ text m rest e. let s = month_sound text m rest e in (month_name m, s.0, ((s.1, omega (arith, s.2)), refl));
  complete = λ front m rest f ends. rw f.1 (month_here m rest f.0.0 f.0.1);
}

-- the forms of a date, and the clock
pub dashed_reads : Reads dashed read_iso_date
unfolding read_iso_date
dashed_reads =
    let two = two_reads 100 (omega arith) in
    joined_reads year_form read_year 45 (joined (two_below 100) 45 (two_below 100))
    (joined_at (read_two_digits 100) 45 (read_two_digits 100)) year_reads
    (joined_reads (two_below 100) (read_two_digits 100) 45 (two_below 100) (read_two_digits 100) two two refl) refl

pub long_reads : Reads (day_month month_name) read_long_date
unfolding read_long_date
long_reads =
    let two = two_reads 100 (omega arith) in
    joined_reads (two_below 100) (read_two_digits 100) 32 (joined (month_form month_name) 32 year_form)
    (joined_at read_month 32 read_year) two
    (joined_reads (month_form month_name) read_month 32 year_form read_year month_reads year_reads refl) refl

pub short_reads : Reads (day_month short_month_name) read_short_date
unfolding read_short_date
short_reads =
    let two = two_reads 100 (omega arith) in
    joined_reads (two_below 100) (read_two_digits 100) 32 (joined (month_form short_month_name) 32 year_form)
    (joined_at read_short_month 32 read_year) two
    (joined_reads (month_form short_month_name) read_short_month 32 year_form read_year short_month_reads year_reads refl) refl

pub slashed_reads : Reads slashed read_us_date
unfolding read_us_date
slashed_reads =
    let two = two_reads 100 (omega arith) in
    joined_reads (two_below 100) (read_two_digits 100) 47 (joined (two_below 100) 47 year_form)
    (joined_at (read_two_digits 100) 47 read_year) two
    (joined_reads (two_below 100) (read_two_digits 100) 47 year_form read_year two year_reads refl) refl

pub clock_reads : Reads clock read_clock
unfolding read_clock
clock_reads =
    let hour = two_reads 24 (omega arith) in
    let sixty = two_reads 60 (omega arith) in
    joined_reads (two_below 24) (read_two_digits 24) 58 (joined (two_below 60) 58 (two_below 60))
    (joined_at (read_two_digits 60) 58 (read_two_digits 60)) hour
    (joined_reads (two_below 60) (read_two_digits 60) 58 (two_below 60) (read_two_digits 60) sixty sixty refl) refl
