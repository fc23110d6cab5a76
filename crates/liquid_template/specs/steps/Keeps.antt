-- What rendering keeps of a runtime.
use Rattle.std.specs.Prelude.{◌≡◌, ℕ, Option}
use Rattle.liquid_template.specs.meaning.Partials.{Found, partials_of}

-- what the store finds stays, and what is borrowed. If no partial may be nested, or if no turn opens one, the store is not
-- asked: it is as it was
pub record Keeps {A S F T B L : Type 0} (Unopened : Type 0) (store : S → Option A) (lent : S → L) (finds : A → Found F T B) (depth : ℕ)
    (before after : S) : Type 0 where
  pub store_finds : partials_of finds (store after) ≡ partials_of finds (store before)
  pub unasked : depth ≡ 0 → store after ≡ store before
  pub unopened : Unopened → store after ≡ store before
  pub borrows : lent after ≡ lent before
