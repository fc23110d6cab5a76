-- Pages that are rendered one after another into the same memory.
use Rattle.std.specs.Prelude.{◌≡◌, ℕ, ◌+◌, List, [], ◌∷◌, ◌++◌, length, map, min, take, drop, nat_eq, if◌then◌else◌}
use Rattle.std.specs.Borrow.{Bor}
use Rattle.liquid_c.specs.declared.page.Outcome.{Outcome}

-- one where the page is whole and in the memory
abbrev pub one_if_whole : Outcome → ℕ
one_if_whole o = if nat_eq o.kind 0 then 1 else 0

-- pages over these globals were rendered in turn, which left these outcomes and this memory, of which so many bytes are
-- used, and so many of the pages are whole. Each was rendered into the memory after the bytes that were used before it,
-- which stay, and left there what P says
pub data InTurn (P : List ℕ → List ℕ → List ℕ → Outcome → Type 0) (old : List ℕ) : List (List ℕ) → List Outcome → List ℕ → ℕ → ℕ
    → Type 0 where
  begun : InTurn P old [] [] old 0 0
  rendered : {gs : List (List ℕ)} {os : List Outcome} {before after : List ℕ} {used whole : ℕ} {g : List ℕ} {o : Outcome}
      → InTurn P old gs os before used whole → take used after ≡ take used before → P g (drop used before) (drop used after) o
      → InTurn P old (gs ++ g ∷ []) (os ++ o ∷ []) after (used + o.written) (whole + one_if_whole o)

-- all turns that there are, of so many pages
pub record AllTurns (P : List ℕ → List ℕ → List ℕ → Outcome → Type 0) (globals : List (List ℕ)) (old new : List ℕ)
    (outcomes left : List Outcome) (count whole : ℕ) : Type 0 where
  pub used : ℕ
  pub turns : InTurn P old (take count globals) (take count left) new used whole
  pub later : drop count left ≡ drop count outcomes

-- the turns of pages over these globals, as far as there are outcomes
abbrev pub TurnsOver : (List ℕ → List ℕ → List ℕ → Outcome → Type 0) → List (Bor (List ℕ)) → List ℕ → List ℕ → List Outcome → List Outcome
    → ℕ → Type 0
TurnsOver P globals old new outcomes left whole =
    AllTurns P (map (λ g. g.now) globals) old new outcomes left (min (length globals) (length outcomes)) whole
