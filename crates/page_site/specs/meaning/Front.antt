-- Front matter: what a text may begin with.
use Rattle.std.specs.Prelude.{◌≡◌, ℕ, List, drop, Option}
use Rattle.liquid_value.specs.meaning.Tree.{Members}

-- a text without its front matter is an end of it
abbrev pub Splits : List ℕ → Option Members → List ℕ → Type 0
Splits text matter body = (count : ℕ) × (body ≡ drop count text)
