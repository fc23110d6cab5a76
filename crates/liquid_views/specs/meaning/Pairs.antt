-- The members that a list of pairs of name and value gives.
use Rattle.std.specs.Prelude.{ℕ, List, [], ◌∷◌}
use denote.Bor.{Bor}
use Rattle.liquid_value.specs.meaning.Members.{put_member}
use Rattle.liquid_value.specs.meaning.Tree.{Tree, Members}

-- the pairs put into the members one after another, so a later pair with the same name wins
abbrev pub put_pairs : {V : Type 0} → (V → Tree) → List (Bor (List ℕ) × V) → Members → Members
put_pairs tree [] ms = ms
put_pairs tree (p ∷ ps) ms = put_pairs tree ps (put_member p.0.now (tree p.1) ms)
