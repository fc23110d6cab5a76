-- A law of strings without tags.
use Rattle.std.specs.Prelude.{◌≡◌, ◌≢◌, ℕ, List, [], ◌∷◌}
use Rattle.std.specs.List.{All}
use Rattle.std.specs.Str.{byte}
use Rattle.liquid_strings.specs.meaning.Tags.{stripped}

-- no `>` is anywhere after a `<`
abbrev pub HasNoTag : List ℕ → Type 0
HasNoTag [] = Unit {0}
HasNoTag (b ∷ bs) = (b ≡ byte "<" → All (λ c. c ≢ byte ">") bs) × HasNoTag bs

abbrev pub StrippedTextsHaveNoTag : Type 0
StrippedTextsHaveNoTag = (text : List ℕ) → HasNoTag (stripped text)
