-- Names that are tried one by one.
use Rattle.std.proofs.Common.{◌≡◌, ℕ, suc, ◌+◌, ◌-◌, ◌<◌, ◌≤◌, true, false, List, refl, arith, ◌∙◌, Some, None}
use Rattle.filter_dates.specs.meaning.Names.{first_named, is_name}

module _ (name : ℕ → List ℕ) (word : List ℕ) (top number : ℕ) where
  counted : (n k : ℕ) → n ≡ suc k → first_named name word n number ≡ first_named name word (suc k) number
  counted n k e = rw e refl

  pub named : number < top → is_name (name number) word ≡ true → first_named name word (top - number) number ≡ Some number
  named h e = counted (top - number) (top - (number + 1)) (omega arith) ∙ rw e refl

  pub not_named : number < top → is_name (name number) word ≡ false → first_named name word (top - number) number
      ≡ first_named name word (top - (number + 1)) (number + 1)
  not_named h e = counted (top - number) (top - (number + 1)) (omega arith) ∙ rw e refl

  pub none_named : top ≤ number → first_named name word (top - number) number ≡ None
  none_named h = let e : top - number ≡ 0 = omega arith in rw e refl
