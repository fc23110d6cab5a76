-- What is kept by several calls in order.
use Rattle.std.proofs.Common.{◌≡◌, ℕ, ◌<◌, Option, refl, ap, ◌∙◌, option_map, arith}
use Rattle.liquid_plugins.specs.meaning.Turns.{NodeMeaning}
use Rattle.liquid_template.specs.meaning.Opens.{OpenNone, OpensNone}
use Rattle.liquid_template.specs.meaning.Partials.{Found}
use Rattle.liquid_template.specs.steps.Keeps.{Keeps}

module _ {A S F T B L : Type 0} (Unopened : Type 0) (store : S → Option A) (lent : S → L) (finds : A → Found F T B) (depth : ℕ) where
  pub keeps_all : (a : S) → Keeps Unopened store lent finds depth a a
  keeps_all a = record { store_finds = refl; unasked = λ _. refl; unopened = λ _. refl; borrows = refl }

  -- the store is as it was, whole
  pub keeps_store : (a b : S) → store b ≡ store a → lent b ≡ lent a → Keeps Unopened store lent finds depth a b
  keeps_store a b e h = record { store_finds = ap (option_map finds) e; unasked = λ _. e; unopened = λ _. e; borrows = h }

  pub keeps_both : (a b c : S) → Keeps Unopened store lent finds depth a b → Keeps Unopened store lent finds depth b c
      → Keeps Unopened store lent finds depth a c
  keeps_both a b c p q =
      record {
        store_finds = q.store_finds ∙ p.store_finds;
        unasked = λ z. q.unasked z ∙ p.unasked z;
        unopened = λ n. q.unopened n
            ∙ p.unopened n;
        borrows = q.borrows ∙ p.borrows;
      }

  -- a partial may be nested, so the store may be asked
  pub keeps_asked : (a b : S) → 0 < depth → option_map finds (store b) ≡ option_map finds (store a) → (Unopened → store b ≡ store a)
      → lent b ≡ lent a → Keeps Unopened store lent finds depth a b
  keeps_asked a b h e n l = record { store_finds = e; unasked = λ z. absurd (omega (arith, z, h)); unopened = n; borrows = l }

  -- a call that leaves the store as it was ends what was kept
  pub keeps_ended : (a b c : S) → Keeps Unopened store lent finds depth a b → store c ≡ store b → lent c ≡ lent b
      → Keeps Unopened store lent finds depth a c
  keeps_ended a b c p e l = keeps_both a b c p (keeps_store b c e l)

-- what holds where fewer turns open a partial
pub keeps_unless : {A S F T B L Unopened Other : Type 0} (store : S → Option A) (lent : S → L) (finds : A → Found F T B) (depth : ℕ)
    (a b : S) → (Other → Unopened) → Keeps Unopened store lent finds depth a b → Keeps Other store lent finds depth a b
keeps_unless store lent finds depth a b f p =
    record { store_finds = p.store_finds; unasked = p.unasked; unopened = λ n. p.unopened (f n); borrows = p.borrows }

-- tags and blocks of which no turn opens one
pub tags_open_none : {T P B Q Reg : Type 0} (tags : NodeMeaning T P Reg) (blocks : NodeMeaning B Q Reg) → OpenNone tags blocks
    → OpensNone tags
unfolding OpenNone
tags_open_none tags blocks none = none.0

pub blocks_open_none : {T P B Q Reg : Type 0} (tags : NodeMeaning T P Reg) (blocks : NodeMeaning B Q Reg) → OpenNone tags blocks
    → OpensNone blocks
unfolding OpenNone
blocks_open_none tags blocks none = none.1
