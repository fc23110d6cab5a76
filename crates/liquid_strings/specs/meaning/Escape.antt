-- Strings that are escaped for HTML.
use Rattle.std.specs.Prelude.{ℕ, Bool, false, List, [], ◌∷◌, ◌++◌, ◌==◌, ◌&&◌}
use Rattle.std.specs.Prelude.{Option, Some, None, codes, flat_map, length, nat_lt, slice_index, unwrap_or, if◌then◌else◌}
use Rattle.std.specs.Char.{is_ascii_alphabetic, is_ascii_digit}
use Rattle.std.specs.List.{take_while}
use Rattle.std.specs.Str.{byte}

-- the entity of a character that means something in HTML
abbrev pub entity : ℕ → Option (List ℕ)
entity b =
    if b == byte "&" then Some (codes "&amp;")
    else if b == byte "<" then Some (codes "&lt;")
    else if b == byte ">" then Some (codes "&gt;")
    else if b == byte "\"" then Some (codes "&quot;")
    else if b == byte "'" then Some (codes "&#39;")
    else None

-- a byte, or its entity
abbrev pub escaped_byte : ℕ → List ℕ
escaped_byte b = unwrap_or (entity b) (b ∷ [])

-- each such character as its entity
abbrev pub escaped : List ℕ → List ℕ
escaped bytes = flat_map escaped_byte bytes

-- whether a run of that many bytes, at least one, is followed by a semicolon
abbrev pub run_to_semicolon : ℕ → List ℕ → Bool
run_to_semicolon n bytes = nat_lt 0 n && (nat_lt n (length bytes) && slice_index bytes n == byte ";")

-- whether the bytes are what follows the ampersand of an entity: letters and a semicolon, or a number sign, digits and
-- a semicolon
abbrev pub goes_on_as_entity : List ℕ → Bool
goes_on_as_entity [] = false
goes_on_as_entity (b ∷ bs) =
    if b == byte "#" then run_to_semicolon (length (take_while is_ascii_digit bs)) bs
    else run_to_semicolon (length (take_while is_ascii_alphabetic (b ∷ bs))) (b ∷ bs)

-- the entity of a byte before those others, but none for an ampersand that begins one
abbrev pub needed_entity : ℕ → List ℕ → Option (List ℕ)
needed_entity b others = if b == byte "&" && goes_on_as_entity others then None else entity b

-- each such character as its entity, except for ampersands that begin one
abbrev pub escaped_once : List ℕ → List ℕ
escaped_once [] = []
escaped_once (b ∷ bs) = unwrap_or (needed_entity b bs) (b ∷ []) ++ escaped_once bs
