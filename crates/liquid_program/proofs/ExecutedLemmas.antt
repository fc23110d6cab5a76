-- From what each step of a command returns to what the program says about it.
use Rattle.std.proofs.Common.{
  ◌≡◌,
  ℕ,
  List,
  Option,
  Result,
  Ok,
  Err,
  String,
  Global,
  BTreeMap,
  string_bytes,
  refl,
  ap,
  subst,
  inl,
  inr,
  rules,
  ◌∙◌,
}
use Rattle.liquid_error.specs.declared.error.Error.{Error, the_lemmas, roll-Error}
use Rattle.liquid_error.specs.declared.error.Error.TheOpen.{Error-F}
use Rattle.liquid_value.specs.declared.value.Value.{Value}
use Rattle.liquid_runtime.specs.meaning.Maps.{Names, names_of}
use Rattle.liquid_template.specs.meaning.Sunk.{Sunk}
use Rattle.liquid_partials.specs.meaning.Sources.{Texts}
use Rattle.liquid_program.specs.declared.fault.Fault.{Fault}
use Rattle.liquid_program.specs.meaning.Command.{path_words, option_words}
use Rattle.liquid_program.specs.meaning.Gathered.{WithText, WithGlobals, WithPartials}
use Rattle.liquid_pages.specs.meaning.Globals.{json_object}
use Rattle.liquid_program.specs.meaning.Program.{Renders, Fails, Finishes, Executes, status_of}
use Rattle.liquid_program.specs.meaning.Status.{exit_status, fault_status}
use Rattle.liquid_program.specs.steps.Steps.{Stops, Brings}
use Rattle.liquid_program.proofs.GatheredLemmas.{
  Files,
  Folders,
  text_follows,
  globals_follow,
  partials_follow,
  text_anyhow,
  globals_anyhow,
  partials_anyhow,
}
use Rattle.liquid_program.specs.declared.command.Options.{Options}
use Rattle.liquid_program.proofs.MemoryLemmas.{nothing_rendered}

-- the status of an answer that is this fault
pub failed : (result : Result (Unit {0}) Fault) (fault : Fault) → result ≡ Err fault → exit_status result ≡ fault_status fault
failed result fault is = ap exit_status is

pub finishes_memory : (options : Options) (text : List ℕ) (globals : Names) (partials : Option Texts) (at : Sunk) (status : ℕ) → status ≡ 1
    → Finishes options text globals partials at at status
finishes_memory options text globals partials at status is =
    record {
      result = Err (roll-Error Error-F.Memory);
      renders = nothing_rendered options text globals partials at
          (roll-Error Error-F.Memory) (search (rules, the_lemmas));
      status_is = is;
    }

-- a step that stops, with nothing written
pub stopped : (A : Type 0) (fault : Fault) (at : Sunk) (status : ℕ) → status ≡ fault_status fault → Stops {A = A} (Err fault)
    → Fails at at status
stopped A fault at status is (inl three) = (refl, inl (is ∙ three))
stopped A fault at status is (inr one) = (refl, inr (is ∙ one))

module _ (options : Options) (ending : Option (List ℕ)) (template globals : List ℕ) (folder : Option (List ℕ)) (known : Files)
    (listed : Folders) (at : Sunk) (status : ℕ) where
  abbrev Execution : Type 0
  Execution = Executes options ending (path_words template globals folder) known listed at at status

  abbrev Stop : Type 0
  Stop = Fails at at status

  any_partials : (text : List ℕ) (names : Names) → status ≡ 1 → WithPartials known listed ending (option_words folder) Stop
      (λ partials. Finishes options text names partials at at status)
  any_partials text names one =
      partials_anyhow known listed ending (option_words folder) Stop _ (refl, inr one)
      (λ partials. finishes_memory options text names partials at status one)

  any_globals : (text json : List ℕ) → status ≡ 1
      → WithGlobals (json_object options.decimals json) Stop (λ names. WithPartials known listed ending (option_words folder) Stop
      (λ partials. Finishes options text names partials at at status))
  any_globals text json one = globals_anyhow (json_object options.decimals json) Stop _ (refl, inr one)
      (λ names. any_partials text names one)

  any_json : (text : List ℕ) → status ≡ 1
      → WithText (known globals) Stop (λ json. WithGlobals (json_object options.decimals json) Stop
      (λ names. WithPartials known listed ending (option_words folder) Stop
      (λ partials. Finishes options text names partials at at status)))
  any_json text one = text_anyhow (known globals) Stop _ (refl, inr one) (λ json. any_globals text json one)

  pub no_template : (fault : Fault) → status ≡ fault_status fault
      → WithText (known template) (Stops {A = String Global} (Err fault)) (λ text. Brings (string_bytes {Z = Global}) text (Err fault))
      → Execution
  no_template fault is step =
      text_follows (known template) _ Stop _ _ (stopped (String Global) fault at status is)
      (λ text memory. any_json text (is ∙ memory)) step

  module _ (text : String Global) (there : WithText (known template) (Stops (Ok text)) (λ bytes. Brings string_bytes bytes (Ok text))) where
    abbrev Following : List ℕ → Type 0
    Following bytes =
        WithText (known globals) Stop (λ json. WithGlobals (json_object options.decimals json) Stop
        (λ names. WithPartials known listed ending (option_words folder) Stop
        (λ partials. Finishes options bytes names partials at at status)))

    with_template : Following (string_bytes text) → Execution
    with_template destination =
        text_follows (known template) _ Stop _ _ (λ never. absurd never) (λ bytes same. subst Following same destination) there

    pub no_json : (fault : Fault) → status ≡ fault_status fault → WithText (known globals) (Stops {A = String Global} (Err fault))
        (λ bytes. Brings (string_bytes {Z = Global}) bytes (Err fault)) → Execution
    no_json fault is step =
        with_template (text_follows (known globals) _ Stop _ _ (stopped (String Global) fault at status is)
        (λ json memory. any_globals (string_bytes text) json (is ∙ memory)) step)

    module _ (json : String Global) (found : WithText (known globals) (Stops (Ok json)) (λ bytes. Brings string_bytes bytes (Ok json)))
      where
        abbrev Given : List ℕ → Type 0
        Given bytes =
            WithGlobals (json_object options.decimals bytes) Stop (λ names. WithPartials known listed ending (option_words folder) Stop
            (λ partials. Finishes options (string_bytes text) names partials at at status))

        with_json : Given (string_bytes json) → Execution
        with_json given =
            with_template (text_follows (known globals) _ Stop _ _ (λ never. absurd never) (λ bytes same. subst Given same given) found)

        pub no_globals : (fault : Fault) → status ≡ fault_status fault
            → WithGlobals (json_object options.decimals (string_bytes json)) (Stops {A = BTreeMap (String Global) Value} (Err fault))
            (λ names. Brings names_of names (Err fault)) → Execution
        no_globals fault is step =
            with_json (globals_follow _ _ Stop _ _ (stopped (BTreeMap (String Global) Value) fault at status is)
            (λ names memory. any_partials (string_bytes text) names (is ∙ memory)) step)

        module _ (object : BTreeMap (String Global) Value)
            (given : WithGlobals (json_object options.decimals (string_bytes json)) (Stops (Ok object))
            (λ names. Brings names_of names (Ok object))) where
          abbrev Parts : Names → Type 0
          Parts names =
              WithPartials known listed ending (option_words folder) Stop (λ partials. Finishes options
              (string_bytes text) names partials at at status)

          with_globals : Parts (names_of object) → Execution
          with_globals parts = with_json (globals_follow _ _ Stop _ _ (λ never. absurd never) (λ names same. subst Parts same parts) given)

          pub no_partials : (fault : Fault) → status ≡ fault_status fault
              → WithPartials known listed ending (option_words folder) (Stops {A = Option Texts} (Err fault))
              (λ partials. Brings (λ (source : Option Texts). source) partials (Err fault)) → Execution
          no_partials fault is step =
              with_globals (partials_follow known listed ending (option_words folder) _ Stop _ _ (stopped (Option Texts) fault at status is)
              (λ partials memory. finishes_memory options (string_bytes text) (names_of object) partials at status (is ∙ memory)) step)

pub executed : (options : Options) (ending : Option (List ℕ)) (template globals : List ℕ) (folder : Option (List ℕ)) (known : Files)
    (listed : Folders) (before after : Sunk) (status : ℕ)
    (text json : String Global) (object : BTreeMap (String Global) Value) (source : Option Texts) (result : Result (Unit {0}) Error)
    → WithText (known template) (Stops (Ok text)) (λ bytes. Brings string_bytes bytes (Ok text))
    → WithText (known globals) (Stops (Ok json)) (λ bytes. Brings string_bytes bytes (Ok json))
    → WithGlobals (json_object options.decimals (string_bytes json)) (Stops (Ok object)) (λ names. Brings names_of names (Ok object))
    → WithPartials known listed ending (option_words folder) (Stops (Ok source))
    (λ partials. Brings (λ (s : Option Texts). s) partials (Ok source))
    → Renders options (string_bytes text) (names_of object) source before after result → status ≡ status_of result
    → Executes options ending (path_words template globals folder) known listed before after status
executed options ending template globals folder known listed before after status text json object source result there found given brought
    renders is =
    let finished : Finishes options (string_bytes text) (names_of object) source before after status =
    record { result = result; renders = renders; status_is = is } in
    text_follows (known template) _ _ _ _ (λ never. absurd never)
    (λ bytes same. subst (λ b. WithText (known globals) (Fails before after status)
    (λ j. WithGlobals (json_object options.decimals j) (Fails before after status)
    (λ names. WithPartials known listed ending (option_words folder) (Fails before after status)
    (λ partials. Finishes options b names partials before after status)))) same
    (text_follows (known globals) _ _ _ _ (λ never. absurd never)
    (λ bytes same. subst (λ j. WithGlobals (json_object options.decimals j) (Fails before after status)
    (λ names. WithPartials known listed ending (option_words folder) (Fails before after status)
    (λ partials. Finishes options (string_bytes text) names partials before after status))) same
    (globals_follow _ _ _ _ _ (λ never. absurd never)
    (λ names same. subst (λ n. WithPartials known listed ending (option_words folder) (Fails before after status)
    (λ partials. Finishes options (string_bytes text) n partials before after status)) same
    (partials_follow known listed ending (option_words folder) _ _ _ _ (λ never. absurd never)
    (λ partials same. subst (λ p. Finishes options (string_bytes text) (names_of object) p before after status) same finished) brought))
    given)) found)) there
