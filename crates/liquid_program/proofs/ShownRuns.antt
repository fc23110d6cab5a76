-- From what a run writes to a sink over memory to what its output shows.
use Rattle.std.proofs.Common.{
  ◌≡◌,
  ℕ,
  Bool,
  true,
  false,
  ◌⊎◌,
  inl,
  inr,
  List,
  [],
  ◌∷◌,
  ◌++◌,
  Option,
  None,
  Some,
  Result,
  Ok,
  Err,
  refl,
  sym,
  ap,
  subst,
  ◌∙◌,
  append_assoc,
}
use Rattle.std.specs.Prelude.{MatchOption}
use Rattle.std.proofs.lemmas.List.{append-nil}
use Rattle.liquid_error.specs.declared.error.Error.{Error}
use Rattle.liquid_error.specs.meaning.Refusal.{Refusal}
use Rattle.liquid_error.specs.meaning.Told.{told}
use Rattle.liquid_runtime.specs.meaning.Maps.{Names}
use Rattle.liquid_runtime.specs.meaning.View.{View}
use Rattle.liquid_template.specs.meaning.Run.{Run, pieces, written}
use Rattle.liquid_template.specs.meaning.Sunk.{Sunk, sunk}
use Rattle.liquid_template.specs.meaning.Output.{ungated}
use Rattle.liquid_template.specs.meaning.Outcome.{BrokenOff, Cut, Stopped, Outcome}
use Rattle.liquid_template.proofs.Joins.{pieces-append}
use Rattle.liquid_partials.specs.meaning.Rendered.{RenderedBy}
use Rattle.liquid_partials.specs.meaning.Sources.{Texts}
use Rattle.liquid_plugins.specs.meaning.Nodes.{NodeShape}
use Rattle.liquid_parser.specs.meaning.Lang.{Lang}
use Rattle.liquid_template.specs.meaning.Run.{Action}
use Rattle.liquid_pages.specs.declared.options.PageOptions.{PageOptions}
use Rattle.liquid_pages.specs.meaning.Pages.{PageAnswer, Renders as RendersPage, Settings, first_register, first_view, page_action}
use Rattle.liquid_program.specs.meaning.ProgramLanguage.{plain_language, plain_setting, standard_language, standard_setting}
use Rattle.liquid_program.specs.meaning.Program.{page_options, status_of, Fails, Finishes, Executes, Printed, RendersIn}
use Rattle.liquid_program.specs.meaning.PagesCommand.{AskedPages, pages_of}
use Rattle.liquid_program.specs.meaning.Written.{Placed, Prints, WritesOthers}
use Rattle.std.specs.Option.{unwrap_or}
use Rattle.liquid_program.specs.meaning.Command.{Asked, command_of}
use Rattle.liquid_program.specs.meaning.Status.{settled}
use Rattle.liquid_program.specs.meaning.InMemory.{
  IsBeginning,
  IsWhole,
  ShowsAnswer,
  ShowsNothing,
  ShowsPage,
  ShowsIn,
  ShowsText,
  ShowsCommand,
  ShowsPlaced,
  Shows,
}
use Rattle.liquid_files.specs.meaning.Files.{known_in, listed_in}
use Rattle.liquid_program.specs.declared.command.Options.{Options}
use Rattle.liquid_program.proofs.GatheredLemmas.{gathers_follow}

refused_status : (flushed : Bool) → settled 1 flushed ≡ 1
refused_status true = refl
refused_status false = refl

unread_status : (flushed : Bool) → settled 3 flushed ≡ 3
unread_status true = refl
unread_status false = refl

whole_begins : {Reg : Type 0} (r : Run Reg) (output : List ℕ) → output ≡ written r → IsBeginning r output
whole_begins r output is = ([], sym is ∙ sym (append-nil output))

shown_whole : {Reg : Type 0} (r : Run Reg) (output : List ℕ) (flushed : Bool) → output ≡ written r → r.refusal ≡ None
    → ((settled 0 flushed ≡ 0) × IsWhole r output) ⊎ ((settled 0 flushed ≡ 1) × IsBeginning r output)
shown_whole r output true is done = inl (refl, (is, done))
shown_whole r output false is done = inr (refl, whole_begins r output is)

-- the content of a sink's destination before and after the call, and what the sink borrows
module _ (destination after_after : Option (List ℕ)) (lent : List ℕ) where
  -- a sink that has taken nothing yet
  abbrev fresh : Sunk
  fresh = sunk [] 0 destination lent

  abbrev filled : List ℕ → ℕ → Sunk
  filled output failures = sunk output failures after_after lent

  broken_begins : {Reg : Type 0} (r : Run Reg) (output : List ℕ) (failures : ℕ) (left : View Reg) (refusal : Refusal)
      → BrokenOff r (ungated fresh) (ungated (filled output failures)) left refusal → IsBeginning r output
  broken_begins r output failures left refusal b =
      (b.rest ++ pieces b.later, ap pieces b.steps ∙ pieces-append b.front (b.step ∷ b.later) ∙ rw b.taken (rw b.piece (simp append_assoc)))

  stopped_begins : {Reg : Type 0} (r : Run Reg) (output : List ℕ) (failures : ℕ) (left : View Reg) (t : Option Refusal)
      → MatchOption t (Cut r (ungated fresh) (ungated (filled output failures)))
      (Stopped r (ungated fresh) (ungated (filled output failures)) left) → IsBeginning r output
  stopped_begins r output failures left None c = (
    c.rest ++ pieces c.later,
    ap pieces c.steps ∙ pieces-append c.front c.later ∙ ap (λ t. t ++ pieces c.later) c.pieces_are
        ∙ append_assoc c.part c.rest (pieces c.later)
        ∙ ap (λ front. front ++ (c.rest ++ pieces c.later)) (sym c.taken),
  )
  stopped_begins r output failures left (Some refusal) (inl s) = whole_begins r output s.0.taken
  stopped_begins r output failures left (Some refusal) (inr s) = broken_begins r output failures left refusal s

  -- an outcome shows the run
  shown_outcome : {Reg : Type 0} (r : Run Reg) (output : List ℕ) (failures : ℕ) (flushed : Bool) (left : View Reg)
      (result : Result (Unit {0}) Error)
      → Outcome r (ungated fresh) (ungated (filled output failures)) left result
      → ((settled (status_of result) flushed ≡ 0) × IsWhole r output) ⊎ ((settled (status_of result) flushed ≡ 1) × IsBeginning r output)
  shown_outcome r output failures flushed left (Ok u) o = shown_whole r output flushed o.0.taken o.1
  shown_outcome r output failures flushed left (Err error) o =
      inr (refused_status flushed, stopped_begins r output failures left (told error) o)

  shown_answer : {Reg F T B : Type 0} (action : List (NodeShape F T B) → Action Reg) (v left : View Reg) (answer : PageAnswer F T B)
      (output : List ℕ) (failures : ℕ) (flushed : Bool) (result : Result (Unit {0}) Error)
      → RenderedBy action answer v fresh (filled output failures) left result
      → ShowsAnswer (λ nodes. action nodes v) answer output (settled (status_of result) flushed)
  shown_answer action v left (Ok nodes) output failures flushed result o =
      shown_outcome (action nodes v) output failures flushed left result o.outcome
  shown_answer action v left (Err refusal) output failures flushed (Ok u) o = absurd o.1.1
  shown_answer action v left (Err refusal) output failures flushed (Err error) o = (ap (λ s. s.taken) o.0, refused_status flushed)

  shown_page : {Reg F T P L B Q : Type 0} (s : Settings Reg F T P B Q) (l : Lang F T L B) (options : PageOptions) (text : List ℕ)
      (globals : Names) (partials : Option Texts) (output : List ℕ) (failures : ℕ) (flushed : Bool) (result : Result (Unit {0}) Error)
      → RendersPage s l options text globals partials fresh (filled output failures) result
      → ShowsPage s l options text globals partials output (settled (status_of result) flushed)
  shown_page s l options text globals partials output failures flushed result renders = λ answer reads found is_found.
      shown_answer (page_action s options found globals) (first_view (first_register s) options globals)
      (renders answer reads).left answer output failures flushed result ((renders answer reads).rendered found is_found)

  shown_in : (standard : Bool) (options : PageOptions) (text : List ℕ) (globals : Names) (partials : Option Texts) (output : List ℕ)
      (failures : ℕ) (flushed : Bool) (result : Result (Unit {0}) Error)
      → RendersIn standard options text globals partials fresh (filled output failures) result
      → ShowsIn standard options text globals partials output (settled (status_of result) flushed)
  shown_in false options text globals partials output failures flushed result renders =
      shown_page plain_setting plain_language options text globals partials output failures flushed result renders
  shown_in true options text globals partials output failures flushed result renders =
      shown_page standard_setting standard_language options text globals partials output failures flushed result renders

  shown_nothing : (output : List ℕ) (failures answered : ℕ) (flushed : Bool) → Fails fresh (filled output failures) answered
      → ShowsNothing output (settled answered flushed)
  shown_nothing output failures answered flushed (same, inl is) = (ap (λ s. s.taken) same, inl (rw is (unread_status flushed)))
  shown_nothing output failures answered flushed (same, inr is) = (ap (λ s. s.taken) same, inr (rw is (refused_status flushed)))

  shown_text : (options : Options) (text : List ℕ) (globals : Names) (partials : Option Texts) (output : List ℕ) (failures answered : ℕ)
      (flushed : Bool)
      → Finishes options text globals partials fresh (filled output failures) answered
      → ShowsText options text globals partials output (settled answered flushed)
  shown_text options text globals partials output failures answered flushed finishes =
      subst (λ s. ShowsText options text globals partials output (settled s flushed)) (sym finishes.status_is)
      (shown_in options.standard (page_options options) text globals partials output failures flushed finishes.result finishes.renders)

  shown_command : (options : Options) (ending : Option (List ℕ)) (paths : List (List ℕ)) (files : List ℕ → Option (List ℕ))
      (folders : Bool → List ℕ → Option (List (List ℕ))) (output : List ℕ) (failures answered : ℕ) (flushed : Bool)
      → Executes options ending paths (known_in files) (listed_in folders) fresh (filled output failures) answered
      → ShowsCommand options ending paths files folders output (settled answered flushed)
  shown_command options ending paths files folders output failures answered flushed runs =
      gathers_follow options.decimals paths ending (known_in files) (listed_in folders) _ _ _ _
      (shown_nothing output failures answered flushed)
      (λ text globals partials. shown_text options text globals partials output failures answered flushed) runs

module _ (files left : List ℕ → Option (List ℕ)) (folders : Bool → List ℕ → Option (List (List ℕ))) (output : List ℕ) (status : ℕ) where
  -- a page that is printed to an empty output is what its command shows
  printed_page : (options : Options) (ending : Option (List ℕ)) (paths : List (List ℕ))
      → Printed (Executes options ending paths (known_in files) (listed_in folders)) (Some []) (Some output) status
      → ShowsCommand options ending paths files folders output status
  printed_page options ending paths p =
      let same : p.taken ≡ output = sym p.appended in
      subst (λ s. ShowsCommand options ending paths files folders output s) (sym p.status_is)
      (subst (λ o. ShowsCommand options ending paths files folders o (settled p.answered p.flushed)) same
      (shown_command (Some []) p.destination p.lent options ending paths files folders p.taken p.failures p.answered p.flushed p.done))

  printed_output : (after : Option (List ℕ)) → Some output ≡ after → after ≡ Some [] → output ≡ []
  printed_output after same is = ap (λ o. unwrap_or o output) (same ∙ is)

  printed_asked : (asked : Asked) (place : Option (List ℕ)) → Placed Printed asked place (known_in files) (listed_in folders)
      (known_in left) (Some []) (Some output) status
      → ShowsPlaced asked place files folders left output status
  printed_asked asked None p = (p.0, printed_page asked.choices.options asked.choices.ending asked.paths p.1)
  printed_asked asked (Some place) p = (printed_output (Some output) refl p.0, p.1)

  printed_words : (command : Option Asked) (others : Option AskedPages)
      → MatchOption command ((Some output ≡ Some []) × WritesOthers others (known_in files) (listed_in folders) (known_in left) status)
      (λ asked. Placed Printed asked asked.choices.output (known_in files) (listed_in folders) (known_in left) (Some [])
      (Some output) status)
      → MatchOption command ((output ≡ []) × WritesOthers others (known_in files) (listed_in folders) (known_in left) status)
      (λ asked. ShowsPlaced asked asked.choices.output files folders left output status)
  printed_words None others p = (printed_output (Some output) refl p.0, p.1)
  printed_words (Some asked) others p = printed_asked asked asked.choices.output p

-- what is printed to an empty output is what the words show
pub Shows-printed : (words : List (List ℕ)) (files left : List ℕ → Option (List ℕ)) (folders : Bool → List ℕ → Option (List (List ℕ)))
    (output : List ℕ) (status : ℕ)
    → Prints words (known_in files) (listed_in folders) (known_in left) (Some []) (Some output) status
    → Shows words files folders left output status
Shows-printed words files left folders output status p =
    printed_words files left folders output status (command_of words) (pages_of words) p
