-- What rendering a text may come to.
use Rattle.std.specs.Prelude.{ℕ, List, Option}
use Rattle.liquid_value.specs.meaning.Tree.{Members}

-- what each text over names may come to: its page, or nothing if it fails
abbrev pub Answers : Type 1
Answers = List ℕ → Members → Option (List ℕ) → Type 0

-- what texts come to after a call is among what they came to before it
abbrev pub StaysWithin : Answers → Answers → Type 0
StaysWithin before after = (text : List ℕ) (names : Members) (page : Option (List ℕ)) → after text names page → before text names page
