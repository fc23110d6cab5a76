-- Facts about tests joined by `&&`.
use Rattle.std.proofs.Common.{◌≡◌, Bool, true, false, ◌&&◌, refl}

pub both_true : {a b : Bool} → a ≡ true → b ≡ true → a && b ≡ true
both_true {a = true} p q = q
both_true {a = false} p q = p

pub first_true : (a b : Bool) → a && b ≡ true → a ≡ true
first_true true b p = refl
first_true false b p = p

pub second_true : (a b : Bool) → a && b ≡ true → b ≡ true
second_true true b p = p
second_true false b p = cc
