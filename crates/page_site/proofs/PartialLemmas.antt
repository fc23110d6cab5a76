-- The partials of a folder, one after another.
use Rattle.std.proofs.Common.{◌≡◌, ◌∙◌, ℕ, List, [], ◌∷◌, Bool, true, false, cond, Option, None}
use Rattle.std.proofs.Common.{Some, Result, Ok, Err, IfOk, String, Global, BTreeMap, string_bytes, refl, sym, ap}
use Rattle.std.specs.Prelude.{option_map, if◌then◌else◌}
use Rattle.std.specs.BTreeMap.{Updates, get_by_text}
use Rattle.std.specs.Option.{option_or}
use Rattle.std.specs.Str.{bytes_eq}
use Rattle.std.specs.String.{string_cmp}
use Rattle.std.proofs.lemmas.Map.Text.{btree_map_updates_text}
use Rattle.liquid_files.specs.meaning.Files.{Reads}
use Rattle.page_site.specs.declared.fault.SiteFault.{SiteFault}
use Rattle.page_site.specs.meaning.Faults.{partial_text}
use Rattle.page_site.specs.declared.partials.PartialNames.{PartialNames}
use Rattle.page_site.specs.meaning.Partials.{partial_in}

choose : (b : Bool) (x : String Global) (rest : Option (String Global))
    → option_map string_bytes (cond b (Some x) rest) ≡ cond b (Some (string_bytes x)) (option_map string_bytes rest)
choose true x rest = refl
choose false x rest = refl

-- a partial is at its name, and the others are where they were
pub text_put : (old new : BTreeMap (String Global) (String Global)) (k text : String Global) (name : List ℕ)
    → Updates string_cmp old new k (Some text) → string_bytes k ≡ name → (q : List ℕ)
    → partial_text new q ≡ (if bytes_eq name q then Some (string_bytes text) else partial_text old q)
text_put old new k text name updates is q =
    ap (option_map string_bytes) (btree_map_updates_text (string_bytes k) old new (Some text) updates q)
    ∙ choose (bytes_eq (string_bytes k) q) text (get_by_text old q)
    ∙ ap (λ n. if bytes_eq n q then Some (string_bytes text) else partial_text old q) is

pub listed_names : {V : Type 0} (of : V → List (List ℕ)) (folder : Option (List (List ℕ))) (v : V) → Reads of (Some folder) (Ok v)
    → folder ≡ Some (of v)
listed_names of (Some there) v is = ap Some (sym is)
listed_names of None v never = absurd never

pub partials_listed : (r : Result (BTreeMap (String Global) (String Global)) SiteFault) (called : PartialNames)
    (files : List ℕ → Option (List ℕ)) (folder : List ℕ) (names : List (List ℕ)) (listed : Option (List (List ℕ))) → listed ≡ Some names
    → IfOk r (λ partials. (name : List ℕ) → partial_text partials name ≡ partial_in called files folder names name)
    → IfOk r (λ partials. (names : List (List ℕ)) × (listed ≡ Some names)
    × ((name : List ℕ) → partial_text partials name ≡ partial_in called files folder names name))
partials_listed (Ok partials) called files folder names listed is h = (names, is, h)
partials_listed (Err fault) called files folder names listed is h = tt

or_none : (o : Option (List ℕ)) → option_or o None ≡ o
or_none None = refl
or_none (Some x) = refl

-- no partial is read yet
pub none_read : (empty : BTreeMap (String Global) (String Global)) (o : Option (List ℕ)) (name : List ℕ)
    → partial_text empty name ≡ None → option_or o (partial_text empty name) ≡ o
none_read empty o name is = ap (option_or o) is ∙ or_none o
