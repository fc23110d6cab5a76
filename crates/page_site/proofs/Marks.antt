-- A text with and without a byte order mark.
use Rattle.std.proofs.Common.{◌≡◌, ◌≢◌, ℕ, List, [], ◌∷◌, ◌++◌, Bool, true, false, cond, refl}
use Rattle.std.proofs.lemmas.Bool.{and_parts, eqb-true}
use Rattle.csv.specs.Reading.{is_bom, strip_bom}

abbrev pub order_mark : List ℕ
order_mark = 239 ∷ 187 ∷ 191 ∷ []

kept_at : (a b c : ℕ) (rest : List ℕ) (t : Bool) → is_bom a b c ≡ t → ((more : List ℕ) → (a ∷ b ∷ c ∷ rest) ≢ order_mark ++ more)
    → a ∷ b ∷ c ∷ rest ≡ cond t rest (a ∷ b ∷ c ∷ rest)
kept_at a b c rest true is none =
    let front = and_parts _ _ is in
    let first = and_parts _ _ front.0 in
    let x : a ≡ 239 = eqb-true a 239 first.0 in
    let y : b ≡ 187 = eqb-true b 187 first.1 in
    let z : c ≡ 191 = eqb-true c 191 front.1 in
    absurd (none rest (rw (x, y, z) refl))
kept_at a b c rest false is none = refl

pub kept : (text : List ℕ) → ((more : List ℕ) → text ≢ order_mark ++ more) → text ≡ strip_bom text
unfolding strip_bom
kept [] none = refl
kept (a ∷ []) none = refl
kept (a ∷ b ∷ []) none = refl
kept (a ∷ b ∷ c ∷ rest) none = kept_at a b c rest _ refl none

pub stripped : (text rest : List ℕ) → text ≡ order_mark ++ rest → rest ≡ strip_bom text
unfolding strip_bom
stripped text rest is = rw is refl
