-- Text literals. They have no escapes.
use Rattle.std.specs.Prelude.{ℕ, Bool, ◌==◌, List, [], ◌∷◌, ◌++◌, Option, Some, None, if◌then◌else◌}
use Rattle.std.specs.List.{list_any}
use Rattle.std.specs.Str.{byte}

abbrev pub has : ℕ → List ℕ → Bool
has quote text = list_any (λ b. b == quote) text

-- the other quote
abbrev pub other : ℕ → ℕ
other quote = if quote == byte "\"" then byte "'" else byte "\""

abbrev pub between : ℕ → List ℕ → List ℕ
between quote text = quote ∷ (text ++ (quote ∷ []))

-- the literal of a text, in this quote if the text doesn't have it, otherwise in the other one
abbrev pub literal : ℕ → List ℕ → Option (List ℕ)
literal quote text =
    if has quote text then (if has (other quote) text then None else Some (between (other quote) text)) else Some (between quote text)
