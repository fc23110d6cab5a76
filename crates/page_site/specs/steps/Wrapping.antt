-- One layout around a page.
use Rattle.std.specs.Prelude.{◌≡◌, ℕ, List, Option}
use Rattle.liquid_value.specs.meaning.Tree.{Members}
use Rattle.page_site.specs.meaning.Answers.{Answers}
use Rattle.page_site.specs.meaning.Layouts.{Layout, Wraps, layout_in}

-- the layout of this name makes this of the content, and is within the next one
abbrev pub StepsTo : Answers → (List ℕ → Option (List ℕ)) → Members → List (List ℕ) → List ℕ
    → List ℕ → List ℕ → Option (List ℕ) → Type 0
StepsTo answers partials names seen name content made next =
    (layout : Layout) × Wraps answers partials names seen name content layout made × (next ≡ layout_in layout.matter)
