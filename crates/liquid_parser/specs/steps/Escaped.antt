-- How the result of the walk over an escaped body relates to its elements.
use Rattle.std.specs.Prelude.{◌≡◌, ℕ, List, Option, Some, None, MatchOption}
use Rattle.std.specs.Borrow.{Bor}
use Rattle.liquid_grammar.specs.meaning.Cover.{Element, Cover}

-- the text up to the end of the body, with what follows it, or no end
abbrev pub EscapesTo : Option (Bor (List ℕ) × Bor (List ℕ)) → Option (List ℕ × List Element) → Type 0
EscapesTo result meant =
    MatchOption result (meant ≡ None) (λ p. (left : List Element) × Cover p.1.now left × (meant ≡ Some (p.0.now, left)))
