-- The files of a site, one after another.
use Rattle.std.proofs.Common.{
  ◌≡◌,
  ◌≢◌,
  ◌∙◌,
  ◌==◌,
  ℕ,
  ◌⊎◌,
  List,
  [],
  ◌∷◌,
  Option,
  None,
  Some,
  Bool,
  true,
  false,
  Result,
  Ok,
  Err,
  OnOk,
  OnErr,
  subst,
  sym,
  ap,
  inl,
  inr,
}
use Rattle.std.specs.Prelude.{if◌then◌else◌}
use Rattle.liquid_value.specs.meaning.Tree.{Members}
use Rattle.liquid_files.specs.meaning.Files.{Replaces, Same}
use Rattle.page_site.specs.declared.fault.SiteFault.{SiteFault}
use Rattle.page_site.specs.meaning.Answers.{Answers, StaysWithin}
use Rattle.page_site.specs.meaning.Items.{Becomes, IsMade, ItemShape, WritesItem, WritesItems, is_page}
use Rattle.page_site.specs.meaning.Layouts.{IsPage, layout_in, with_page}
use Rattle.page_site.proofs.WrapLemmas.{wrapped_before}

abbrev pub Files : Type 0
Files = List ℕ → Option (Option (List ℕ))

becomes_before : (before after : Answers) (partials : List ℕ → Option (List ℕ)) (names : Members) (b : Bool) (bytes made : List ℕ)
    → StaysWithin before after → Becomes after partials names b bytes made → Becomes before partials names b bytes made
becomes_before before after partials names true bytes made same (matter, body, content, splits, answer, (layouts, h)) = (
  matter,
  body,
  content,
  splits,
  same _ _ _ answer,
  (layouts, wrapped_before before after partials (with_page matter names) layouts [] (layout_in matter) content made same h),
)
becomes_before before after partials names false bytes made same h = h

writes_before : (before after : Answers) (partials : List ℕ → Option (List ℕ)) (names : Members) (item : ItemShape) (known left : Files)
    (status : ℕ) → StaysWithin before after → WritesItem after partials names item known left status
    → WritesItem before partials names item known left status
writes_before before after partials names item known left status same (inl (zero, (made, (bytes, there, becomes), replaced))) =
    inl (zero, (made, (bytes, there, becomes_before before after partials names (is_page item bytes) bytes made same becomes), replaced))
writes_before before after partials names item known left status same (inr h) = inr h

all_before : (before after : Answers) (partials : List ℕ → Option (List ℕ)) (names : Members) (items : List ItemShape) (known left : Files)
    (status result : ℕ) → StaysWithin before after → WritesItems after partials names items known left status result
    → WritesItems before partials names items known left status result
all_before before after partials names [] known left status result same h = h
all_before before after partials names (item ∷ items) known left status result same (between, one, first, rest) = (
  between,
  one,
  writes_before before after partials names item known between one same first,
  all_before before after partials names items between left (if status == 0 then one else status) result same rest,
)

-- one file, by what was returned for it, before its fault is reported
pub item_written : (answers : Answers) (partials : List ℕ → Option (List ℕ)) (names : Members) (item : ItemShape)
    (known between left : Files)
    (one : ℕ) (r : Result (Unit {0}) SiteFault)
    → OnOk r ((made : List ℕ) × IsMade answers partials names known item made × Replaces known between item.target made)
    → OnErr r (Same known between) → left ≡ between → OnOk r (one ≡ 0) → OnErr r (one ≢ 0)
    → WritesItem answers partials names item known left one
item_written answers partials names item known between left one r written kept is zero more =
    subst (λ (files : Files). WritesItem answers partials names item known files one) (sym is)
    (by_result r written kept zero more)
  where
    by_result : (r : Result (Unit {0}) SiteFault)
        → OnOk r ((made : List ℕ) × IsMade answers partials names known item made × Replaces known between item.target made)
        → OnErr r (Same known between) → OnOk r (one ≡ 0) → OnErr r (one ≢ 0)
        → WritesItem answers partials names item known between one
    by_result (Ok _) written kept zero more = inl (zero, written)
    by_result (Err fault) written kept zero more = inr (more, kept)

-- one file, and those after it
pub items_written : (before after : Answers) (partials : List ℕ → Option (List ℕ)) (names : Members) (all : List ItemShape)
    (item : ItemShape) (items : List ItemShape) (known between left : Files) (status one following result : ℕ)
    → all ≡ item ∷ items → StaysWithin before after
    → WritesItem before partials names item known between one
    → following ≡ (if status == 0 then one else status)
    → WritesItems after partials names items between left following result
    → WritesItems before partials names all known left status result
items_written before after partials names all item items known between left status one following result is same written step rest =
    subst (λ is. WritesItems before partials names is known left status result) (sym is) (
      between,
      one,
      written,
      all_before before after partials names items between left (if status == 0 then one else status) result same
          (subst (λ s. WritesItems after partials names items between left s result) step rest),
    )
