-- What follows from the result of a command, and what is true of every such result.
use Rattle.std.proofs.Common.{◌≡◌, ◌∙◌, ℕ, Bool, List, [], ◌∷◌, Option, None, Some, Result, Ok, Err, String, Global, string_bytes, subst}
use Rattle.std.specs.Global.{Vec}
use Rattle.std.proofs.lemmas.Str.{IsUtf8-string_bytes}
use Rattle.std.specs.Option.{unwrap_or}
use Rattle.std.specs.Prelude.{IsUtf8, is_some}
use Rattle.std.specs.FinMap.{empty, insert}
use Rattle.liquid_error.specs.meaning.Refusal.{Refusal}
use Rattle.liquid_value.specs.meaning.Tree.{Members}
use Rattle.liquid_runtime.specs.meaning.Maps.{Names}
use Rattle.liquid_partials.specs.meaning.Sources.{Texts}
use Rattle.liquid_files.specs.meaning.Files.{Reads}
use Rattle.liquid_program.specs.meaning.Gathered.{
  WithText,
  WithGlobals,
  WithNames,
  WithFiles,
  WithFolder,
  WithPartials,
  Gathers,
  in_order,
  path_in,
}
use Rattle.liquid_pages.specs.meaning.Globals.{global_names, json_object}

abbrev pub Files : Type 0
Files = List ℕ → Option (Option (List ℕ))

abbrev pub Folders : Type 0
Folders = Bool → List ℕ → Option (Option (List (List ℕ)))

pub text_follows : (file : Option (Option (List ℕ))) (stop stops : Type 0) (next goes : List ℕ → Type 0) → (stop → stops)
    → ((text : List ℕ) → next text → goes text) → WithText file stop next → WithText file stops goes
text_follows None stop stops next goes on_stop on_text with = tt
text_follows (Some None) stop stops next goes on_stop on_text with = on_stop with
text_follows (Some (Some bytes)) stop stops next goes on_stop on_text with =
    (λ is_text. on_text bytes (with.0 is_text), λ no_text. on_stop (with.1 no_text))

pub globals_follow : (given : Option (Result Members Refusal)) (stop stops : Type 0) (next goes : Names → Type 0) → (stop → stops)
    → ((names : Names) → next names → goes names) → WithGlobals given stop next → WithGlobals given stops goes
globals_follow None stop stops next goes on_stop on_names with = on_stop with
globals_follow (Some (Err refusal)) stop stops next goes on_stop on_names with = on_stop with
globals_follow (Some (Ok members)) stop stops next goes on_stop on_names with = on_names (global_names members) with

pub names_follow : (listed : Option (Option (List (List ℕ)))) (stop stops : Type 0) (next goes : List (List ℕ) → Type 0) → (stop → stops)
    → ((names : List (List ℕ)) → next names → goes names) → WithNames listed stop next → WithNames listed stops goes
names_follow None stop stops next goes on_stop on_names with = tt
names_follow (Some None) stop stops next goes on_stop on_names with = on_stop with
names_follow (Some (Some names)) stop stops next goes on_stop on_names with = on_names names with

pub files_follow : (known : Files) (folder ending : List ℕ) (names : List (List ℕ)) (texts : Texts) (stop stops : Type 0)
    (next goes : Texts → Type 0) → (stop → stops) → ((texts : Texts) → next texts → goes texts)
    → WithFiles known folder ending names texts stop next → WithFiles known folder ending names texts stops goes
files_follow known folder ending [] texts stop stops next goes on_stop on_texts with = on_texts texts with
files_follow known folder ending (name ∷ names) texts stop stops next goes on_stop on_texts with =
    text_follows (known (path_in folder ending name)) stop stops
    (λ text. WithFiles known folder ending names (insert texts name text) stop next) _ on_stop
    (λ text. files_follow known folder ending names (insert texts name text) stop stops next goes on_stop on_texts) with

pub folder_follows : (known : Files) (folder : List ℕ) (ending : Option (List ℕ)) (listed : Option (Option (List (List ℕ))))
    (stop stops : Type 0) (next goes : Texts → Type 0) → (stop → stops) → ((texts : Texts) → next texts → goes texts)
    → WithFolder known folder ending listed stop next → WithFolder known folder ending listed stops goes
folder_follows known folder ending listed stop stops next goes on_stop on_texts with =
    names_follow listed stop stops (λ names. WithFiles known folder (unwrap_or ending []) (in_order ending names) empty stop next) _ on_stop
    (λ names. files_follow known folder (unwrap_or ending []) (in_order ending names) empty stop stops next goes on_stop on_texts) with

pub partials_follow : (known : Files) (listed : Folders) (ending : Option (List ℕ)) (words : List (List ℕ)) (stop stops : Type 0)
    (next goes : Option Texts → Type 0) → (stop → stops) → ((partials : Option Texts) → next partials → goes partials)
    → WithPartials known listed ending words stop next → WithPartials known listed ending words stops goes
partials_follow known listed ending [] stop stops next goes on_stop on_partials with = on_partials None with
partials_follow known listed ending (folder ∷ words) stop stops next goes on_stop on_partials with =
    folder_follows known folder ending (listed (is_some ending) folder) stop stops (λ texts. next (Some texts))
    (λ texts. goes (Some texts)) on_stop (λ texts. on_partials (Some texts)) with

pub gathers_follow : (decimals : Bool) (words : List (List ℕ)) (ending : Option (List ℕ)) (known : Files) (listed : Folders)
    (stop stops : Type 0)
    (next goes : List ℕ → Names → Option Texts → Type 0)
    → (stop → stops) → ((text : List ℕ) (names : Names) (partials : Option Texts) → next text names partials → goes text names partials)
    → Gathers decimals words ending known listed stop next → Gathers decimals words ending known listed stops goes
gathers_follow decimals (template ∷ globals ∷ rest) ending known listed stop stops next goes on_stop on_next gathers =
    text_follows (known template) stop stops _ _ on_stop
    (λ text. text_follows (known globals) stop stops _ _ on_stop
    (λ json. globals_follow (json_object decimals json) stop stops _ _ on_stop
    (λ names. partials_follow known listed ending rest stop stops (λ partials. next text names partials)
    (λ partials. goes text names partials) on_stop (λ partials. on_next text names partials)))) gathers
gathers_follow decimals [] ending known listed stop stops next goes on_stop on_next gathers = tt
gathers_follow decimals (template ∷ []) ending known listed stop stops next goes on_stop on_next gathers = tt

pub text_anyhow : (file : Option (Option (List ℕ))) (stop : Type 0) (next : List ℕ → Type 0) → stop → ((text : List ℕ) → next text)
    → WithText file stop next
text_anyhow None stop next stops goes = tt
text_anyhow (Some None) stop next stops goes = stops
text_anyhow (Some (Some bytes)) stop next stops goes = (λ is_text. goes bytes, λ no_text. stops)

pub globals_anyhow : (given : Option (Result Members Refusal)) (stop : Type 0) (next : Names → Type 0) → stop
    → ((names : Names) → next names) → WithGlobals given stop next
globals_anyhow None stop next stops goes = stops
globals_anyhow (Some (Err refusal)) stop next stops goes = stops
globals_anyhow (Some (Ok members)) stop next stops goes = goes (global_names members)

pub names_anyhow : (listed : Option (Option (List (List ℕ)))) (stop : Type 0) (next : List (List ℕ) → Type 0) → stop
    → ((names : List (List ℕ)) → next names) → WithNames listed stop next
names_anyhow None stop next stops goes = tt
names_anyhow (Some None) stop next stops goes = stops
names_anyhow (Some (Some names)) stop next stops goes = goes names

pub files_anyhow : (known : Files) (folder ending : List ℕ) (names : List (List ℕ)) (texts : Texts) (stop : Type 0) (next : Texts → Type 0)
    → stop → ((texts : Texts) → next texts) → WithFiles known folder ending names texts stop next
files_anyhow known folder ending [] texts stop next stops goes = goes texts
files_anyhow known folder ending (name ∷ names) texts stop next stops goes =
    text_anyhow _ _ _ stops (λ text. files_anyhow known folder ending names (insert texts name text) stop next stops goes)

pub partials_anyhow : (known : Files) (listed : Folders) (ending : Option (List ℕ)) (words : List (List ℕ)) (stop : Type 0)
    (next : Option Texts → Type 0) → stop → ((partials : Option Texts) → next partials) → WithPartials known listed ending words stop next
partials_anyhow known listed ending [] stop next stops goes = goes None
partials_anyhow known listed ending (folder ∷ words) stop next stops goes =
    names_anyhow _ _ _ stops (λ names. files_anyhow known folder (unwrap_or ending []) (in_order ending names) empty stop _ stops
    (λ texts. goes (Some texts)))

-- a text that was read from what is known
pub text_brought : (file : Option (Option (List ℕ))) (bytes : Vec ℕ) (text : String Global) → Reads (λ (b : Vec ℕ). b.items) file (Ok bytes)
    → string_bytes text ≡ bytes.items
    → WithText file ⊥ (λ b. string_bytes text ≡ b)
text_brought None bytes text read same = tt
text_brought (Some None) bytes text read same = absurd read
text_brought (Some (Some there)) bytes text read same =
    (λ is_text. same ∙ read, λ no_text. absurd (no_text (subst IsUtf8 (same ∙ read) (IsUtf8-string_bytes text))))
