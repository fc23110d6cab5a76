-- The files of a folder, one after another.
use Rattle.std.proofs.Common.{
  Bor,
  option_map,
  ◌≡◌,
  ◌∙◌,
  ℕ,
  List,
  [],
  ◌∷◌,
  ◌++◌,
  Option,
  Some,
  Ok,
  Err,
  String,
  Global,
  BTreeMap,
  string_bytes,
  sym,
  ap,
  subst,
  inr,
  append_assoc,
}
use Rattle.std.proofs.lemmas.List.{append-nil}
use Rattle.std.specs.Option.{unwrap_or}
use Rattle.std.specs.Prelude.{is_some}
use Rattle.std.specs.FinMap.{empty, insert, keys}
use Rattle.liquid_plugins.specs.meaning.Registry.{by_name}
use Rattle.liquid_partials.specs.meaning.Sources.{Texts}
use Rattle.liquid_program.specs.declared.fault.Fault.{Fault}
use Rattle.liquid_program.specs.meaning.Command.{option_words}
use Rattle.liquid_program.specs.meaning.Gathered.{WithText, WithNames, WithFiles, WithFolder, WithPartials, in_order, names_into, path_in}
use Rattle.liquid_program.specs.meaning.Status.{fault_status}
use Rattle.liquid_program.specs.steps.Steps.{Stops, Brings}
use Rattle.liquid_program.proofs.GatheredLemmas.{Files, Folders, text_follows, names_follow, folder_follows, files_anyhow}

-- what was read makes this source
abbrev pub Read : Files → List ℕ → List ℕ → List (List ℕ) → Texts → Texts → Type 0
Read known folder ending front texts source = WithFiles known folder ending front texts ⊥ (λ read. source ≡ read)

-- the names are those of files that were read, and then these
abbrev pub ReadSoFar : Files → List ℕ → List ℕ → List (List ℕ) → List (List ℕ) → Texts → Type 0
ReadSoFar known folder ending names rest source =
    (front : List (List ℕ)) × (names ≡ front ++ rest) × Read known folder ending front empty source

pub nothing_read : (known : Files) (folder ending : List ℕ) (names rest : List (List ℕ)) (source : Texts) → names ≡ rest → source ≡ empty
    → ReadSoFar known folder ending names rest source
nothing_read known folder ending names rest source same none = ([], same, none)

-- after the front come the files after it
read_on : (known : Files) (folder ending : List ℕ) (front rest : List (List ℕ)) (texts source : Texts) (stop : Type 0)
    (next : Texts → Type 0)
    → Read known folder ending front texts source → WithFiles known folder ending rest source stop next
    → WithFiles known folder ending (front ++ rest) texts stop next
read_on known folder ending [] rest texts source stop next read with = subst (λ t. WithFiles known folder ending rest t stop next) read with
read_on known folder ending (name ∷ front) rest texts source stop next read with =
    text_follows (known (path_in folder ending name)) ⊥ stop (λ text. Read known folder ending front (insert texts name text) source) _
    (λ never. absurd never)
    (λ text so_far. read_on known folder ending front rest (insert texts name text) source stop next so_far with) read

pub read_then : (known : Files) (folder ending : List ℕ) (names rest : List (List ℕ)) (source : Texts) (stop : Type 0)
    (next : Texts → Type 0)
    → ReadSoFar known folder ending names rest source → WithFiles known folder ending rest source stop next
    → WithFiles known folder ending names empty stop next
read_then known folder ending names rest source stop next so_far with =
    subst (λ ns. WithFiles known folder ending ns empty stop next) (sym so_far.1)
    (read_on known folder ending so_far.0 rest empty source stop next so_far.2 with)

-- one more file was read
pub read_more : (known : Files) (folder name ending : List ℕ) (names rest : List (List ℕ)) (source after : Texts) (text : String Global)
    → ReadSoFar known folder ending names (name ∷ rest) source
    → WithText (known (path_in folder ending name)) (Stops (Ok text)) (λ bytes. Brings string_bytes bytes (Ok text))
    → after ≡ insert source name (string_bytes text) → ReadSoFar known folder ending names rest after
read_more known folder name ending names rest source after text so_far there is = (
  so_far.0 ++ (name ∷ []),
  so_far.1 ∙ sym (append_assoc so_far.0 (name ∷ []) rest),
  read_on known folder ending so_far.0 (name ∷ []) empty source ⊥ (λ read. after ≡ read) so_far.2
      (text_follows (known (path_in folder ending name)) ⊥ ⊥ (λ bytes. string_bytes text ≡ bytes)
      (λ bytes. after ≡ insert source name bytes) (λ never. never)
      (λ bytes same. is ∙ ap (insert source name) same) there),
)

-- a file that can't be read
pub read_stops : (known : Files) (folder name ending : List ℕ) (names rest : List (List ℕ)) (source : Texts) (fault : Fault)
    → ReadSoFar known folder ending names (name ∷ rest) source
    → WithText (known (path_in folder ending name)) (Stops {A = String Global} (Err fault))
    (λ bytes. Brings (string_bytes {Z = Global}) bytes (Err fault))
    → WithFiles known folder ending names empty (Stops {A = Texts} (Err fault)) (λ texts. Brings (λ (s : Texts). s) texts (Err fault))
read_stops known folder name ending names rest source fault so_far step =
    read_then known folder ending names (name ∷ rest) source _ _ so_far
    (text_follows (known (path_in folder ending name)) (Stops {A = String Global} (Err fault)) (Stops {A = Texts} (Err fault))
    (λ bytes. fault_status fault ≡ 1) _ (λ stops. stops)
    (λ text memory. files_anyhow known folder ending rest (insert source name text) _ _ (inr memory) (λ texts. memory)) step)

-- memory ran out
pub read_memory : (known : Files) (folder ending : List ℕ) (names rest : List (List ℕ)) (source : Texts) (fault : Fault)
    → ReadSoFar known folder ending names rest source → fault_status fault ≡ 1
    → WithFiles known folder ending names empty (Stops {A = Texts} (Err fault)) (λ texts. Brings (λ (s : Texts). s) texts (Err fault))
read_memory known folder ending names rest source fault so_far memory =
    read_then known folder ending names rest source _ _ so_far (files_anyhow known folder ending rest source _ _ (inr memory)
    (λ texts. memory))

-- all were read
pub read_all : (known : Files) (folder ending : List ℕ) (names rest : List (List ℕ)) (source : Texts)
    → ReadSoFar known folder ending names rest source → rest ≡ []
    → WithFiles known folder ending names empty (Stops (Ok source)) (λ texts. Brings (λ (s : Texts). s) texts (Ok source))
read_all known folder ending names rest source so_far none =
    subst (λ ns. Read known folder ending ns empty source) (sym (so_far.1 ∙ ap (λ ns. so_far.0 ++ ns) none ∙ append-nil so_far.0)) so_far.2

-- the names in order, then the files under them
pub folder_read : (known : Files) (folder : List ℕ) (ending : Option (List ℕ)) (listed : Option (Option (List (List ℕ))))
    (names : BTreeMap (String Global) (Unit {0})) (stop : Type 0) (next : Texts → Type 0)
    → WithNames listed (Stops (Ok names)) (λ ns. Brings by_name (names_into ending empty ns) (Ok names))
    → WithFiles known folder (unwrap_or ending []) (keys (by_name names)) empty stop next → WithFolder known folder ending listed stop next
folder_read known folder ending listed names stop next found read =
    names_follow listed ⊥ stop (λ ns. by_name names ≡ names_into ending empty ns) _ (λ never. absurd never)
    (λ ns same. subst (λ m. WithFiles known folder (unwrap_or ending []) (keys m) empty stop next) same read) found

-- the names can't be read
pub folder_stops : (known : Files) (folder : List ℕ) (ending : Option (List ℕ)) (listed : Option (Option (List (List ℕ)))) (fault : Fault)
    → WithNames listed (Stops {A = BTreeMap (String Global) (Unit {0})} (Err fault))
    (λ ns. Brings (by_name {X = Unit {0}}) (names_into ending empty ns) (Err fault))
    → WithFolder known folder ending listed (Stops {A = Texts} (Err fault)) (λ texts. Brings (λ (s : Texts). s) texts (Err fault))
folder_stops known folder ending listed fault step =
    names_follow listed (Stops {A = BTreeMap (String Global) (Unit {0})} (Err fault)) (Stops {A = Texts} (Err fault))
    (λ ns. fault_status fault ≡ 1) _ (λ stops. stops)
    (λ ns memory. files_anyhow known folder (unwrap_or ending []) (in_order ending ns) empty _ _ (inr memory) (λ texts. memory)) step

-- the partials of a folder that was read
pub partials_brought : (known : Files) (listed : Folders) (ending : Option (List ℕ)) (folder : Option (Bor (List ℕ))) (named : Bor (List ℕ))
    (source : Texts) → folder ≡ Some named
    → WithFolder known named.now ending (listed (is_some ending) named.now) ⊥ (λ texts. source ≡ texts)
    → WithPartials known listed ending (option_words (option_map (λ f. f.now) folder)) ⊥ (λ partials. Some source ≡ partials)
partials_brought known listed ending folder named source is read =
    subst (λ (f : Option (Bor (List ℕ))). WithPartials known listed ending (option_words (option_map (λ (w : Bor (List ℕ)). w.now) f)) ⊥
    (λ partials. Some source ≡ partials)) (sym is)
    (folder_follows known named.now ending (listed (is_some ending) named.now) ⊥ ⊥ (λ texts. source ≡ texts)
    (λ texts. Some source ≡ Some texts) (λ never. never) (λ texts same. ap Some same) read)
