-- Strings that are escaped for XML.
use Rattle.std.specs.Prelude.{ℕ, List, [], ◌∷◌, ◌==◌, Option, Some, None, codes, flat_map, unwrap_or, if◌then◌else◌}
use Rattle.std.specs.Str.{byte}

-- the entity of a character that means something in XML
abbrev pub xml_entity : ℕ → Option (List ℕ)
xml_entity b =
    if b == byte "&" then Some (codes "&amp;")
    else if b == byte "<" then Some (codes "&lt;")
    else if b == byte ">" then Some (codes "&gt;")
    else if b == byte "\"" then Some (codes "&quot;")
    else if b == byte "'" then Some (codes "&apos;")
    else None

-- each such character as its entity
abbrev pub xml_escaped : List ℕ → List ℕ
xml_escaped text = flat_map (λ b. unwrap_or (xml_entity b) (b ∷ [])) text
