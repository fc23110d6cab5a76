-- Each group of `cycle` has a key of its own.
use Rattle.std.specs.Prelude.{◌≡◌, ℕ, ◌<◌, ◌^◌, List, [], ◌∷◌, length, ⊤}
use Rattle.liquid_std.specs.meaning.marks.Groups.{Sharing, group_key, named, unnamed}

-- texts that fit into memory
abbrev pub AreTexts : List (List ℕ) → Type 0
AreTexts [] = ⊤
AreTexts (t ∷ ts) = (length t < 2 ^ 64) × AreTexts ts

abbrev pub HasTexts : Sharing → Type 0
HasTexts (named name) = ⊤
HasTexts (unnamed texts) = AreTexts texts

-- two groups with one key are one group
abbrev pub KeysDiffer : Type 0
KeysDiffer = (g h : Sharing) → HasTexts g → HasTexts h → group_key g ≡ group_key h → g ≡ h
