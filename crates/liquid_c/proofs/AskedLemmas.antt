-- From the language that was chosen to what a call leaves.
use Rattle.std.proofs.Common.{
  ◌≡◌,
  ℕ,
  ◌≤◌,
  ◌<◌,
  true,
  false,
  List,
  map,
  Option,
  Some,
  None,
  true≢false,
  inr,
  refl,
  sym,
  ap,
  ◌∙◌,
  subst,
  arith,
}
use Rattle.liquid_dates.specs.declared.date_time.DateTime.{DateTime}
use Rattle.liquid_scalar.specs.meaning.Scalar.{text}
use Rattle.liquid_value.specs.meaning.Tree.{scalar}
use Rattle.liquid_tags.specs.meaning.Languages.{meaning_of}
use Rattle.liquid_tags.specs.meaning.Library.{library}
use Rattle.filter_dates.proofs.MomentLemmas.{moment_once}
use Rattle.liquid_std.specs.meaning.marks.Held.{marks_alone}
use Rattle.liquid_std.specs.meaning.marks.Marks.{no_marks}
use Rattle.liquid_std.specs.meaning.Languages.{meaning_of as standard_meaning}
use Rattle.liquid_std.specs.meaning.Standard.{standard}
use Rattle.jekyll_language.specs.meaning.Languages.{meaning_of as jekyll_meaning}
use Rattle.jekyll_language.specs.meaning.Rendered.{jekyll}
use Rattle.jekyll_language.specs.meaning.Site as site
use Rattle.liquid_pages.specs.meaning.Shown.{ComesTo, Page, bytes_of_partial}
use Rattle.liquid_c.specs.declared.page.Outcome.{Outcome}
use Rattle.liquid_c.specs.declared.page.Page.{Page as Asked}
use Rattle.liquid_c.specs.declared.languages.Chosen.{Chosen}
use Rattle.liquid_c.specs.declared.languages.Chosen.TheVariants as chosen
use Rattle.liquid_c.specs.declared.languages.Dialect.{Dialect}
use Rattle.liquid_c.specs.declared.languages.Dialect.TheVariants.{Plain, Standard, Jekyll}
use Rattle.liquid_c.specs.meaning.Jekyll.{partial_as_read, text_as_read}
use Rattle.liquid_c.specs.meaning.Languages.{ComesToIn, filter_calls, filter_made}
use Rattle.liquid_c.specs.meaning.Moments.{HasMoment, LacksMoment}
use Rattle.liquid_c.specs.meaning.Options.{dialect_of, page_options}
use Rattle.liquid_c.specs.meaning.Outcomes.{Leaves, LeavesOver, Momentless, Unasked, outcome_alone}
use Rattle.liquid_c.specs.steps.Chosen.{HasLanguage, IsChosen, JekyllLanguage, PlainLanguage, StandardLanguage}
use Rattle.liquid_c.specs.steps.Prepared.{JekyllComesTo}

-- a page has one moment, or none
moment_is : (asked : Asked) (a b : Option DateTime) → HasMoment asked a → HasMoment asked b → a ≡ b
moment_is asked None None h k = refl
moment_is asked None (Some y) h k = absurd (true≢false (sym k.0 ∙ h))
moment_is asked (Some x) None h k = absurd (true≢false (sym h.0 ∙ k))
moment_is asked (Some x) (Some y) h k = ap (λ (dt : DateTime). Some dt) (moment_once None (scalar (text asked.moment.now)) x y h.1.1 k.1.1)

-- a page that has its moment does not lack it
lacks_none : (asked : Asked) (now : Option DateTime) → HasMoment asked now → ¬ (LacksMoment asked)
lacks_none asked None has lacks = true≢false (sym lacks.0 ∙ has)
lacks_none asked (Some dt) has lacks = lacks.1 dt has.1

module _ (asked : Asked) (globals old new : List ℕ) (o : Outcome) where
  never : asked.options < 64 → 64 ≤ asked.options → ⊥
  never within over = omega (arith, within, over)

  -- the page in the language of a dialect, with this moment, is left
  abbrev Left : Option DateTime → Dialect → Type 0
  Left now dialect =
      (page : Page) → ComesToIn now dialect (page_options asked) asked.text.now globals (map bytes_of_partial asked.partials.now) page
      → Leaves page old new o

  left_in : (now : Option DateTime) (dialect : Dialect) → asked.options < 64 → HasMoment asked now → dialect_of asked.options ≡ dialect
      → Left now dialect → LeavesOver asked globals old new o
  left_in now dialect within has is left = (
    λ _ other has_other. subst (λ n. Left n (dialect_of asked.options)) (moment_is asked now other has has_other)
        (subst (Left now) (sym is) left),
    λ _ lacks. absurd (lacks_none asked now has lacks),
    λ over. absurd (never within over),
  )

  module _ (it : Chosen) (is : IsChosen asked it) where
    -- there are no such options
    pub none_asked : it ≡ chosen.NoOptions → Unasked old new o → LeavesOver asked globals old new o
    none_asked same leaves =
        let over : 64 ≤ asked.options = subst (IsChosen asked) same is in
        (λ within. absurd (never within over), λ within. absurd (never within over), λ _. leaves)

    -- the moment of the page is none
    pub momentless_asked : it ≡ chosen.NoMoment → Momentless old new o → LeavesOver asked globals old new o
    momentless_asked same leaves =
        let lacks : IsChosen asked chosen.NoMoment = subst (IsChosen asked) same is in (
          λ _ now has. absurd (lacks_none asked now has lacks.1),
          λ _ _. leaves,
          λ over. absurd (never lacks.0 over),
        )

    -- there is no memory for the language, or for the moment
    pub memory_asked : it ≡ chosen.NoMemory → o ≡ outcome_alone 6 → new ≡ old → ((page : Page) → Leaves page old new o)
        → LeavesOver asked globals old new o
    memory_asked same alone unwritten leaves =
        let within : asked.options < 64 = subst (IsChosen asked) same is in
        (λ _ now has page comes. leaves page, λ _ _. (inr alone, unwritten), λ over. absurd (never within over))

    -- a page in the language without filters
    pub plain_asked : (l : PlainLanguage) → it ≡ chosen.Plain l
        → ((page : Page) → ComesTo (library (tt {0}) filter_calls) (meaning_of filter_made l.value)
        (page_options asked) asked.text.now globals (map bytes_of_partial asked.partials.now) page → Leaves page old new o)
        → LeavesOver asked globals old new o
    plain_asked l same leaves =
        let all : HasLanguage asked (chosen.Plain l) = subst (IsChosen asked) same is in
        left_in all.1.0 Plain all.0 all.1.1 all.1.2.0 (subst (λ k. (page : Page) → ComesTo (library (tt {0}) filter_calls) k
        (page_options asked) asked.text.now globals (map bytes_of_partial asked.partials.now) page → Leaves page old new o) all.1.2.1
        leaves)

    -- a page in the standard language
    pub standard_asked : (l : StandardLanguage) → it ≡ chosen.Standard l
        → ((page : Page) → ComesTo (standard marks_alone no_marks filter_calls) (standard_meaning filter_made l.value)
        (page_options asked) asked.text.now globals (map bytes_of_partial asked.partials.now) page → Leaves page old new o)
        → LeavesOver asked globals old new o
    standard_asked l same leaves =
        let all : HasLanguage asked (chosen.Standard l) = subst (IsChosen asked) same is in
        left_in all.1.0 Standard all.0 all.1.1 all.1.2.0 (subst (λ k. (page : Page) → ComesTo (standard marks_alone no_marks filter_calls) k
        (page_options asked) asked.text.now globals (map bytes_of_partial asked.partials.now) page → Leaves page old new o) all.1.2.1
        leaves)

    -- a page in Jekyll's language
    pub jekyll_asked : (l : JekyllLanguage) → it ≡ chosen.Jekyll l
        → ((page : Page) → JekyllComesTo (jekyll marks_alone no_marks site.filter_calls) (jekyll_meaning site.filter_made l.value)
        asked globals page → Leaves page old new o)
        → LeavesOver asked globals old new o
    jekyll_asked l same leaves =
        let all : HasLanguage asked (chosen.Jekyll l) = subst (IsChosen asked) same is in
        left_in all.1.0 Jekyll all.0 all.1.1 all.1.2.0 (subst (λ k. (page : Page) → JekyllComesTo
        (jekyll marks_alone no_marks site.filter_calls) k asked globals page → Leaves page old new o) all.1.2.1 leaves)
