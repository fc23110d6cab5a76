-- From what each step of several pages returns to what the program says about them.
use Rattle.std.proofs.Common.{
  ◌≡◌,
  ◌≢◌,
  ◌∙◌,
  ℕ,
  ◌⊎◌,
  List,
  [],
  ◌∷◌,
  Option,
  None,
  Some,
  Result,
  Ok,
  Err,
  String,
  Global,
  BTreeMap,
  string_bytes,
  refl,
  sym,
  ap,
  subst,
  inl,
  inr,
  arith,
}
use Rattle.std.specs.Prelude.{⊤}
use Rattle.liquid_error.specs.meaning.Refusal.{Refusal}
use Rattle.liquid_value.specs.declared.value.Value.{Value}
use Rattle.liquid_value.specs.meaning.Tree.{Members}
use Rattle.liquid_runtime.specs.meaning.Maps.{Names, names_of}
use Rattle.liquid_template.specs.meaning.Sunk.{Sunk}
use Rattle.liquid_partials.specs.meaning.Sources.{Texts}
use Rattle.liquid_pages.specs.meaning.Globals.{json_object}
use Rattle.liquid_pages.specs.meaning.Globals.{global_names}
use Rattle.liquid_program.specs.declared.command.Options.{Options}
use Rattle.liquid_program.specs.declared.fault.Fault.{Fault}
use Rattle.liquid_program.specs.declared.fault.Fault.TheVariants.{
  Refused,
  Explained,
  Usage,
  Unreadable,
  UnreadableInFolder,
  Unwritable,
  OwnFile,
  BadJson,
  NoGlobals,
}
use Rattle.liquid_program.specs.meaning.Command.{option_words}
use Rattle.liquid_files.specs.meaning.Files.{Replaces, Same}
use Rattle.liquid_program.specs.meaning.Gathered.{WithText, WithGlobals, WithPartials}
use Rattle.liquid_program.specs.meaning.PagesCommand.{AskedPages}
use Rattle.liquid_program.specs.meaning.Program.{ExecutesOne, Fails, Finishes, Printed, Renders, status_of}
use Rattle.liquid_program.specs.meaning.Status.{all_status, fault_status}
use Rattle.liquid_program.specs.meaning.Written.{
  Lands,
  WritesEach,
  WritesFile,
  WritesNothing,
  WritesPages,
  file_in,
  first_fault,
  pages_folder,
}
use Rattle.liquid_program.specs.steps.Steps.{Stops, Brings}
use Rattle.liquid_program.proofs.GatheredLemmas.{
  Files,
  Folders,
  text_follows,
  globals_follow,
  partials_follow,
  text_anyhow,
  globals_anyhow,
  partials_anyhow,
}
use Rattle.liquid_program.proofs.ExecutedLemmas.{finishes_memory, stopped}

-- no fault has status 0
fault_is_one : (fault : Fault) → fault_status fault ≢ 0
fault_is_one (Refused error) = λ zero. omega (arith, zero)
fault_is_one (Explained error notes) = λ zero. omega (arith, zero)
fault_is_one Usage = λ zero. omega (arith, zero)
fault_is_one (Unreadable path) = λ zero. omega (arith, zero)
fault_is_one (UnreadableInFolder path) = λ zero. omega (arith, zero)
fault_is_one (Unwritable path) = λ zero. omega (arith, zero)
fault_is_one (OwnFile path) = λ zero. omega (arith, zero)
fault_is_one (BadJson path note) = λ zero. omega (arith, zero)
fault_is_one (NoGlobals error note) = λ zero. omega (arith, zero)

-- a page that was not rendered to its end
pub lands_broken : (known left : Files) (file page : List ℕ) (fault : Fault) (answered status : ℕ) → answered ≡ fault_status fault
    → status ≡ fault_status fault → Same known left → Lands known left file page answered status
lands_broken known left file page fault answered status is same_status same =
    record { whole = λ zero. absurd (fault_is_one fault (sym is ∙ zero)); broken = λ _. (same_status ∙ sym is, same) }

-- a whole page that was written, or could not be
pub lands_whole : (known left : Files) (file page : List ℕ) (answered status : ℕ) → answered ≡ 0 → status ≡ 0
    → Replaces known left file page → Lands known left file page answered status
lands_whole known left file page answered status is same_status replaced =
    record { whole = λ _. inl (same_status, replaced); broken = λ never. absurd (never is) }

pub lands_nowhere : (known left : Files) (file page : List ℕ) (answered status : ℕ) → answered ≡ 0 → status ≡ 1 → Same known left
    → Lands known left file page answered status
lands_nowhere known left file page answered status is same_status same =
    record { whole = λ _. inr (same_status, same); broken = λ never. absurd (never is) }

-- a page that was printed and then written, or not
pub written : (Done : Sunk → Sunk → ℕ → Type 0) (known between left : Files) (file at page bytes : List ℕ) (answered status : ℕ)
    → between ≡ known → at ≡ file → bytes ≡ page → Printed Done (Some []) (Some page) answered → Lands between left at bytes answered status
    → WritesFile Done file known left status
written Done known between left file at page bytes answered status same_known same_file same_page printed landed = record {
  page = page;
  answered = answered;
  printed = printed;
  landed =
      subst (λ (k : Files). Lands k left file page answered status) same_known
      (subst (λ f. Lands between left f page answered status) same_file
      (subst (λ b. Lands between left at b answered status) same_page landed));
}

pub same_known : (known left : Files) → left ≡ known → Same known left
same_known known left is = λ path. ap (λ (k : Files). k path) is

pub ruleset landing = (lands_broken, lands_whole, lands_nowhere, written, same_known)

-- two statements about the same globals
pub both_globals : (given : Option (Result Members Refusal)) (stop stops : Type 0) (first other goes : Names → Type 0) → (stop → ⊥)
    → ((names : Names) → first names → other names → goes names)
    → WithGlobals given stop first → WithGlobals given ⊤ other → WithGlobals given stops goes
both_globals None stop stops first other goes never with a b = absurd (never a)
both_globals (Some (Err refusal)) stop stops first other goes never with a b = absurd (never a)
both_globals (Some (Ok members)) stop stops first other goes never with a b = with (global_names members) a b

-- the same where the first of both may be out of memory
pub maybe_globals : (given : Option (Result Members Refusal)) (stop : Type 0) (first goes : Names → Type 0)
    → ((names : Names) → first names → goes names)
    → WithGlobals given stop first → WithGlobals given ⊤ goes
maybe_globals None stop first goes with a = tt
maybe_globals (Some (Err refusal)) stop first goes with a = tt
maybe_globals (Some (Ok members)) stop first goes with a = with (global_names members) a

-- two statements about the same globals, neither of which says that they are there
pub both_given : (given : Option (Result Members Refusal)) (first other goes : Names → Type 0)
    → ((names : Names) → first names → other names → goes names)
    → WithGlobals given ⊤ first → WithGlobals given ⊤ other → WithGlobals given ⊤ goes
both_given None first other goes with a b = tt
both_given (Some (Err refusal)) first other goes with a b = tt
both_given (Some (Ok members)) first other goes with a b = with (global_names members) a b

-- the status of pages that were not begun
pub failed_all : (result : Result ℕ Fault) (fault : Fault) → result ≡ Err fault → all_status result ≡ fault_status fault
failed_all result fault is = ap all_status is

-- one more page
pub each_more : (json : List ℕ) (pages : AskedPages) (partials : Option Texts) (templates rest : List (List ℕ)) (template : List ℕ)
    (known before between at left : Files) (status one next result : ℕ)
    → templates ≡ template ∷ rest → before ≡ known → at ≡ between → next ≡ first_fault status one
    → WithGlobals (json_object pages.options.decimals json) ⊤
    (λ globals. WritesFile (ExecutesOne pages.options template globals partials before)
    (file_in (pages_folder pages.output) template) before between one)
    → WithGlobals (json_object pages.options.decimals json) ⊤ (λ globals. WritesEach pages globals partials rest at left next result)
    → WithGlobals (json_object pages.options.decimals json) ⊤
    (λ globals. WritesEach pages globals partials templates known left status result)
each_more json pages partials templates rest template known before between at left status one next result split same_before same_at
    same_next wrote others =
    subst (λ ts. WithGlobals (json_object pages.options.decimals json) ⊤
    (λ globals. WritesEach pages globals partials ts known left status result)) (sym split)
    (both_given (json_object pages.options.decimals json) _ _
    (λ globals. WritesEach pages globals partials (template ∷ rest) known left status result)
    (λ globals w o. (
      between,
      one,
      subst (λ (k : Files). WritesFile (ExecutesOne pages.options template globals partials k)
          (file_in (pages_folder pages.output) template) k between one) same_before w,
      subst (λ (k : Files). WritesEach pages globals partials rest k left (first_fault status one) result) same_at
          (subst (λ n. WritesEach pages globals partials rest at left n result) same_next o),
    )) wrote others)

-- one template over globals and partials that were read before
module _ (options : Options) (template : List ℕ) (globals : Names) (partials : Option Texts) (known : Files) (at : Sunk) (status : ℕ) where
  pub one_memory : status ≡ 1 → ExecutesOne options template globals partials known at at status
  one_memory one =
      text_anyhow (known template) (Fails at at status) _ (refl, inr one)
      (λ text. finishes_memory options text globals partials at status one)

  pub one_unread : (fault : Fault) → status ≡ fault_status fault
      → WithText (known template) (Stops {A = String Global} (Err fault)) (λ text. Brings (string_bytes {Z = Global}) text (Err fault))
      → ExecutesOne options template globals partials known at at status
  one_unread fault is step =
      text_follows (known template) _ (Fails at at status) _ _ (stopped (String Global) fault at status is)
      (λ text memory. finishes_memory options text globals partials at status (is ∙ memory)) step

-- several pages
module _ (pages : AskedPages) (known : Files) (listed : Folders) (left : Files) (status : ℕ) where
  abbrev Stop : Type 0
  Stop = WritesNothing known left status

  abbrev Next : Names → Option Texts → Type 0
  Next names partials = ((status ≡ 1) × Same known left) ⊎ WritesEach pages names partials pages.templates known left 0 status

  abbrev Parts : Names → Type 0
  Parts names = WithPartials known listed pages.ending (option_words pages.partials) Stop (Next names)

  none_written : (A : Type 0) (fault : Fault) → status ≡ fault_status fault → Same known left → Stops {A = A} (Err fault) → Stop
  none_written A fault is same (inl three) = (same, inl (is ∙ three))
  none_written A fault is same (inr one) = (same, inr (is ∙ one))

  any_partials : (names : Names) → status ≡ 1 → Same known left → Parts names
  any_partials names one same =
      partials_anyhow known listed pages.ending (option_words pages.partials) Stop _ (same, inr one) (λ partials. inl (one, same))

  any_globals : (json : List ℕ) → status ≡ 1 → Same known left → WithGlobals (json_object pages.options.decimals json) Stop Parts
  any_globals json one same = globals_anyhow (json_object pages.options.decimals json) Stop _ (same, inr one)
      (λ names. any_partials names one same)

  pub no_globals_text : (fault : Fault) → status ≡ fault_status fault → Same known left
      → WithText (known pages.globals) (Stops {A = String Global} (Err fault)) (λ text. Brings (string_bytes {Z = Global}) text (Err fault))
      → WritesPages pages known listed left status
  no_globals_text fault is same step =
      text_follows (known pages.globals) _ Stop _ _ (none_written (String Global) fault is same)
      (λ text memory. any_globals text (is ∙ memory) same) step

  module _ (json : String Global) (there : WithText (known pages.globals) (Stops (Ok json)) (λ bytes. Brings string_bytes bytes (Ok json)))
    where
      with_json : WithGlobals (json_object pages.options.decimals (string_bytes json)) Stop Parts
          → WritesPages pages known listed left status
      with_json given =
          text_follows (known pages.globals) _ Stop _ _ (λ never. absurd never)
          (λ bytes same. subst (λ b. WithGlobals (json_object pages.options.decimals b) Stop Parts) same given) there

      pub no_globals_object : (fault : Fault) → status ≡ fault_status fault → Same known left
          → WithGlobals (json_object pages.options.decimals (string_bytes json)) (Stops {A = BTreeMap (String Global) Value} (Err fault))
          (λ names. Brings names_of names (Err fault)) → WritesPages pages known listed left status
      no_globals_object fault is same step =
          with_json (globals_follow _ _ Stop _ _ (none_written (BTreeMap (String Global) Value) fault is same)
          (λ names memory. any_partials names (is ∙ memory) same) step)

      module _ (object : BTreeMap (String Global) Value)
          (given : WithGlobals (json_object pages.options.decimals (string_bytes json)) (Stops (Ok object))
          (λ names. Brings names_of names (Ok object))) where
        pub no_pages_partials : (fault : Fault) → status ≡ fault_status fault → Same known left
            → WithPartials known listed pages.ending (option_words pages.partials) (Stops {A = Option Texts} (Err fault))
            (λ partials. Brings (λ (source : Option Texts). source) partials (Err fault))
            → WritesPages pages known listed left status
        no_pages_partials fault is same step =
            with_json (globals_follow _ _ Stop _ Parts (λ never. absurd never)
            (λ names _. partials_follow known listed pages.ending (option_words pages.partials) _ Stop _ _
            (none_written (Option Texts) fault is same) (λ partials memory. inl (is ∙ memory, same)) step) given)

        pub each_written : (source : Option Texts)
            → WithPartials known listed pages.ending (option_words pages.partials) (Stops (Ok source))
            (λ partials. Brings (λ (s : Option Texts). s) partials (Ok source))
            → WithGlobals (json_object pages.options.decimals (string_bytes json)) ⊤
            (λ names. WritesEach pages names source pages.templates known left 0 status)
            → WritesPages pages known listed left status
        each_written source brought each =
            with_json (both_globals (json_object pages.options.decimals (string_bytes json)) _ Stop _ _ Parts (λ never. never)
            (λ names _ written. partials_follow known listed pages.ending (option_words pages.partials) _ Stop _ _ (λ never. absurd never)
            (λ partials same. inr (subst (λ p. WritesEach pages names p pages.templates known left 0 status) same written)) brought) given
            each)
