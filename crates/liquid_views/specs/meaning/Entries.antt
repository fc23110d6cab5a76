-- The members that the entries of a map without an order give.
use Rattle.std.specs.Prelude.{ℕ, List, [], ◌∷◌, String, string_bytes}
use Rattle.std.specs.declared.alloc.Global.{Global}
use denote.Bor.{Bor}
use Rattle.liquid_value.specs.meaning.Members.{put_member}
use Rattle.liquid_value.specs.meaning.Tree.{Tree, Members, no_members, member}

-- the entries put into the members one after another, so that the members are in byte order of their names
abbrev pub put_entries : {V : Type 0} → (V → Tree) → List (String Global × V) → Members → Members
put_entries tree [] ms = ms
put_entries tree (e ∷ es) ms = put_entries tree es (put_member (string_bytes e.0) (tree e.1) ms)

-- the members of an index of borrowed names and values, in its order
abbrev pub index_members : {V : Type 0} → (V → Tree) → List (Bor (List ℕ) × Bor V) → Members
index_members tree [] = no_members
index_members tree (e ∷ es) = member e.0.now (tree e.1.now) (index_members tree es)
