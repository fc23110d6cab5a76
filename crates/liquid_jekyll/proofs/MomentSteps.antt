-- What is written for a moment.
use Rattle.std.proofs.Common.{◌≡◌, inl, inr, ℕ, List, false, Option, sym, ap, ◌∙◌}
use Rattle.liquid_dates.specs.declared.date_time.DateTime.{DateTime}
use Rattle.liquid_dates.specs.meaning.Instant.{civil_date}
use Rattle.liquid_value.specs.meaning.Tree.{Tree}
use Rattle.filter_dates.specs.meaning.Moments.{IsMomentOf}
use Rattle.filter_dates.proofs.Deciding.{Decided}
use Rattle.filter_dates.proofs.MomentLemmas.{moment_of, moment_once}
use Rattle.liquid_jekyll.specs.declared.dates.DateForm.{DateForm}
use Rattle.liquid_jekyll.specs.declared.dates.DayStyle.{DayStyle}
use Rattle.liquid_jekyll.specs.meaning.Dates.{is_kept, pattern, written, written_if, written_moment}
use Rattle.liquid_filters.specs.meaning.Dates.{formatted, printed}

moment_written : (form : DateForm) (style : DayStyle) (now : Option DateTime) (t : Tree) (dt : DateTime) (d : Decided (IsMomentOf now t))
    → IsMomentOf now t dt → written_if {P = IsMomentOf now t} form style t d ≡ written_moment form style dt
moment_written form style now t dt (inl (e, k)) h = ap (written_moment form style) (moment_once now t e dt k h)
moment_written form style now t dt (inr none) h = absurd (none dt h)

-- what is written for the moment that an input means
written_of : (form : DateForm) (style : DayStyle) (now : Option DateTime) (t : Tree) (dt : DateTime) → is_kept t ≡ false
    → IsMomentOf now t dt → written form style now t ≡ written_moment form style dt
written_of form style now t dt e h = rw e (moment_written form style now t dt (moment_of now t) h)

pub written_by : (form : DateForm) (style : DayStyle) (now : Option DateTime) (t : Tree) (dt : DateTime) (day : ℕ) (p : List ℕ)
    → is_kept t ≡ false → IsMomentOf now t dt → day ≡ (civil_date dt).day → p ≡ pattern form style day
    → written form style now t ≡ printed p (formatted dt p)
written_by form style now t dt day p e h is by =
    written_of form style now t dt e h ∙ ap (λ q. printed q (formatted dt q)) (sym (by ∙ ap (pattern form style) is))
