-- The names of lists.
use Rattle.std.proofs.Common.{◌≡◌, ◌∙◌, ◌==◌, ℕ, ◌-◌, List, length, take, Option, None, Some, Bor, sym, ap, refl, false}
use Rattle.std.specs.Prelude.{MatchOption, codes, if◌then◌else◌}
use Rattle.std.specs.Str.Pattern.{FindsTextSuffix, StripsSuffix}
use Rattle.std.proofs.lemmas.Bool.Decides.{Decides-eqb}
use Rattle.std.proofs.lemmas.Slice.Eq.{ends_is}
use Rattle.std.proofs.lemmas.Str.Pattern.{ends_text}
use Rattle.liquid_page.specs.meaning.Names.{list_name}

-- a name with the ending, and one without it
pub stripped : (s : List ℕ) (x : Bor (List ℕ)) → StripsSuffix (FindsTextSuffix (codes ".csv")) s x.now → x.now ≡ list_name s
stripped s x h =
    h.2 ∙ ap (λ k. take (length s - k) s) h.1.0
    ∙ ap (λ b. if b then take (length s - 4) s else s) (sym ((ends_is Decides-eqb s (codes ".csv") _ refl).1 _ h.1.1))

pub unstripped : (s : List ℕ) → FindsTextSuffix (codes ".csv") s None → s ≡ list_name s
unstripped s h = ap (λ b. if b then take (length s - 4) s else s) (ends_text false (codes ".csv") s h)

pub ruleset list_names = (stripped, unstripped)
