-- The language that a call made.
use Rattle.std.proofs.Common.{◌≡◌, ◌<◌, Option, Result, Ok, Err, subst}
use Rattle.std.specs.Prelude.{IfOk}
use Rattle.liquid_dates.specs.declared.date_time.DateTime.{DateTime}
use Rattle.liquid_c.specs.declared.languages.Chosen.{Chosen}
use Rattle.liquid_c.specs.declared.languages.Chosen.TheVariants as chosen
use Rattle.liquid_c.specs.declared.moments.MomentFault.{MomentFault}
use Rattle.liquid_c.specs.declared.moments.MomentFault.TheVariants.{NoMoment}
use Rattle.liquid_c.specs.declared.page.Page.{Page}
use Rattle.liquid_c.specs.meaning.Moments.{HasMoment, LacksMoment}
use Rattle.liquid_c.specs.meaning.Options.{dialect_of}
use Rattle.liquid_c.specs.steps.Chosen.{IsChosen, IsChosenAt, IsGiven}

pub made : {A E : Type 0} (P : A → Type 0) (r : Result A E) (x : A) → r ≡ Ok x → IfOk r P → P x
made P r x is holds = subst (λ r. IfOk r P) is holds

-- the moment that a call returned, or the reason why there is none
pub given : (asked : Page) (r s : Result (Option DateTime) MomentFault) → r ≡ s → IsGiven asked r → IsGiven asked s
given asked r s is gives = subst (IsGiven asked) is gives

pub given_none : (asked : Page) (r : Result (Option DateTime) MomentFault) (fault : MomentFault) → r ≡ Err fault → fault ≡ NoMoment
    → IsGiven asked r → LacksMoment asked
given_none asked r fault is none gives = subst (λ f. IsGiven asked (Err f)) none (given asked r (Err fault) is gives)

-- the language with the moment of the page
pub with_moment : (asked : Page) (now : Option DateTime) (it : Chosen) → asked.options < 64 → HasMoment asked now
    → IsChosenAt now (dialect_of asked.options) it → IsChosen asked it
with_moment asked now chosen.NoOptions within has is = absurd is
with_moment asked now chosen.NoMoment within has is = absurd is
with_moment asked now chosen.NoMemory within has is = within
with_moment asked now (chosen.Plain l) within has is = (within, (now, has, is))
with_moment asked now (chosen.Standard l) within has is = (within, (now, has, is))
with_moment asked now (chosen.Jekyll l) within has is = (within, (now, has, is))
