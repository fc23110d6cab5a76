use Rattle.std.proofs.Common.{inl, inr, rules}
use Rattle.liquid_dates.proofs.WholeLemmas.{first_only}
use Rattle.liquid_dates.proofs.date.Date.from_str.Goals as goal

pub returns-clause-only : goal.returns-clause-only
returns-clause-only c = λ d h. elim h [
  | inl today ↦ absurd (search rules)
  | inr forms ↦ first_only c.first_date.result _ d c.first_date.ensures.fits c.first_date.ensures.none (rw c.as_bytes.ensures.value forms.1)
]
