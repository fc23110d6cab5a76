-- Ends of a text.
use Rattle.std.proofs.Common.{◌≡◌, ◌∙◌, ℕ, ◌+◌, List, drop, ap}
use Rattle.std.proofs.lemmas.List.{drop-drop}

-- an end of an end is an end
pub end_of_end : (text left rest : List ℕ) → (count : ℕ) × (left ≡ drop count text) → (count : ℕ) × (rest ≡ drop count left)
    → (count : ℕ) × (rest ≡ drop count text)
end_of_end text left rest (a, is) (n, more) = (a + n, more ∙ ap (drop n) is ∙ drop-drop n a text)
