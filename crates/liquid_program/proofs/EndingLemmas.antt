-- What is left of a name whose ending is taken off.
use Rattle.std.proofs.Common.{◌≡◌, ◌∙◌, ℕ, ◌-◌, List, [], ◌∷◌, length, take, Option, None, Some, false, Bor, option_map, sym, ap, refl}
use Rattle.std.specs.Prelude.{MatchOption, if◌then◌else◌}
use Rattle.std.specs.Str.Pattern.{FindsTextSuffix, StripsSuffix}
use Rattle.std.proofs.lemmas.Bool.Decides.{Decides-eqb}
use Rattle.std.proofs.lemmas.Slice.Eq.{ends_is}
use Rattle.std.proofs.lemmas.Str.Pattern.{ends_text}
use Rattle.std.specs.FinMap.{insert}
use Rattle.std.specs.Option.{option_map_or, unwrap_or}
use Rattle.liquid_runtime.specs.meaning.Maps.{NameMap}
use Rattle.liquid_program.specs.meaning.Gathered.{names_into, stem_of}

pub stem_stripped : (n s : List ℕ) (r : Option (Bor (List ℕ)))
    → MatchOption r (FindsTextSuffix n s None) (λ x. StripsSuffix (FindsTextSuffix n) s x.now)
    → option_map (λ x. x.now) r ≡ stem_of (Some n) s
stem_stripped n s None h = ap (λ b. if b then Some (take (length s - length n) s) else None) (ends_text false n s h)
stem_stripped n s (Some x) h =
    ap Some (h.2 ∙ ap (λ k. take (length s - k) s) h.1.0)
    ∙ ap (λ b. if b then Some (take (length s - length n) s) else None) (sym ((ends_is Decides-eqb s n _ refl).1 _ h.1.1))

-- the ending, and an empty one if there is none
pub unwrapped : (ending : Option (Bor (List ℕ))) (none result : Bor (List ℕ)) → result ≡ unwrap_or ending none → none.now ≡ []
    → result.now ≡ unwrap_or (option_map (λ e. e.now) ending) []
unwrapped None none result is empty = ap (λ r. r.now) is ∙ empty
unwrapped (Some ending) none result is empty = ap (λ r. r.now) is

-- one more name
pub names_step : (ending : Option (List ℕ)) (found after : NameMap (Unit {0})) (name : List ℕ) (stem : Option (List ℕ))
    (rest : List (List ℕ))
    → stem ≡ stem_of ending name → after ≡ option_map_or (λ s. insert found s tt) stem found
    → names_into ending after rest ≡ names_into ending found (name ∷ rest)
names_step ending found after name stem rest same is =
    ap (λ m. names_into ending m rest) (is ∙ ap (λ s. option_map_or (λ t. insert found t tt) s found) same)
