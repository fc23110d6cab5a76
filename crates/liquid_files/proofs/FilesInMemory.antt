-- How an insertion changes the files in memory.
use Rattle.std.proofs.Common.{◌≡◌, ℕ, Bool, true, false, cond, List, Option, Some, refl, ap, ◌∙◌, string_bytes}
use Rattle.std.specs.Prelude.{String, map, option_map, if◌then◌else◌}
use Rattle.std.specs.Global.{Vec}
use Rattle.std.specs.BTreeMap.{BTreeMap, get_by_text, Updates}
use Rattle.std.specs.Str.{bytes_eq}
use Rattle.std.specs.String.{string_cmp}
use Rattle.std.proofs.lemmas.Map.Text.{btree_map_updates_text}
use Rattle.std.specs.declared.alloc.Global.{Global}
use Rattle.liquid_files.specs.meaning.Files.{Replaces, Same}

choose : {A B : Type 0} (f : A → B) (b : Bool) (x : A) (rest : Option A)
    → option_map f (cond b (Some x) rest) ≡ cond b (Some (f x)) (option_map f rest)
choose f true x rest = refl
choose f false x rest = refl

-- the file is at its path, and all others are where they were
pub bytes_at-insert : (old new : BTreeMap (String Global) (Vec ℕ)) (k : String Global) (file : Vec ℕ)
    → Updates string_cmp old new k (Some file)
    → (p : List ℕ) → option_map (λ v. v.items) (get_by_text new p) ≡ (if bytes_eq (string_bytes k) p then Some file.items else option_map
    (λ v. v.items) (get_by_text old p))
bytes_at-insert old new k file updates p =
    ap (option_map (λ v. v.items)) (btree_map_updates_text (string_bytes k) old new (Some file) updates p)
    ∙ choose (λ v. v.items) (bytes_eq (string_bytes k) p) file (get_by_text old p)

-- so does the list of a folder
pub names_at-insert : (old new : BTreeMap (String Global) (Vec (String Global))) (k : String Global) (names : Vec (String Global))
    → Updates string_cmp old new k (Some names)
    → (p : List ℕ) → option_map (λ v. map string_bytes v.items) (get_by_text new p) ≡ (if bytes_eq (string_bytes k) p then Some
    (map string_bytes names.items) else option_map (λ v. map string_bytes v.items) (get_by_text old p))
names_at-insert old new k names updates p =
    ap (option_map (λ v. map string_bytes v.items)) (btree_map_updates_text (string_bytes k) old new (Some names) updates p)
    ∙ choose (λ v. map string_bytes v.items) (bytes_eq (string_bytes k) p) names (get_by_text old p)

some_of : (b : Bool) (x y : Option (List ℕ)) → Some (cond b x y) ≡ cond b (Some x) (Some y)
some_of true x y = refl
some_of false x y = refl

-- files in memory are known
pub replaced_in_memory : (old new : List ℕ → Option (List ℕ)) (file bytes : List ℕ)
    → ((p : List ℕ) → new p ≡ (if bytes_eq file p then Some bytes else old p))
    → Replaces (λ p. Some (old p)) (λ p. Some (new p)) file bytes
replaced_in_memory old new file bytes added = λ p. ap Some (added p) ∙ some_of (bytes_eq file p) (Some bytes) (old p)

pub same_in_memory : (old new : List ℕ → Option (List ℕ)) → ((p : List ℕ) → new p ≡ old p) → Same (λ p. Some (old p)) (λ p. Some (new p))
same_in_memory old new kept = λ p. ap Some (kept p)

pub ruleset in_memory = (replaced_in_memory, same_in_memory)
