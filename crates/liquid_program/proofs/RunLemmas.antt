-- From the contracts of the calls below to what the program says about a rendering and its output.
use Rattle.std.proofs.Common.{◌≡◌, ℕ, Bool, true, false, List, [], ◌++◌, Option, None, Some, option_map, Result, refl, sym, ap, subst, ◌∙◌}
use Rattle.std.specs.Io.KnownBytes.{Appends, Keeps}
use Rattle.liquid_template.specs.meaning.Grows.{Grows}
use Rattle.liquid_template.specs.meaning.Sunk.{Sunk, sunk}
use Rattle.liquid_error.specs.declared.error.Error.{Error}
use Rattle.liquid_runtime.specs.meaning.Maps.{Names}
use Rattle.liquid_partials.specs.meaning.Sources.{Texts}
use Rattle.liquid_pages.specs.declared.options.PageOptions.{PageOptions}
use Rattle.liquid_pages.specs.meaning.Pages.{Renders as RendersPage}
use Rattle.liquid_program.specs.declared.command.Options.{Options}
use Rattle.liquid_program.specs.meaning.Program.{Printed, Renders, RendersIn, page_options}
use Rattle.liquid_program.specs.meaning.ProgramLanguage.{
  PlainLang,
  StandardLang,
  plain_language,
  plain_setting,
  standard_language,
  standard_setting,
}
use Rattle.liquid_program.specs.meaning.Status.{settled}

-- texts in memory are their own texts
texts_are : (partials : Option Texts) → option_map (λ (texts : Texts). texts) partials ≡ partials
texts_are None = refl
texts_are (Some texts) = refl

-- a page in the one language, and in the other one
pub plain_rendered : (page : PageOptions) (l : PlainLang) (text : List ℕ) (globals : Names) (partials : Option Texts) (before after : Sunk)
    (result : Result (Unit {0}) Error)
    → l ≡ plain_language → RendersPage plain_setting l page text globals
    (option_map (λ (texts : Texts). texts) partials) before after result → RendersIn false page text globals partials before after result
plain_rendered page l text globals partials before after result same renders =
    subst (λ p. RendersPage plain_setting plain_language page text globals p before after result) (texts_are partials)
    (subst (λ m. RendersPage plain_setting m page text globals (option_map (λ (texts : Texts). texts) partials) before after result) same
    renders)

pub standard_rendered : (page : PageOptions) (l : StandardLang) (text : List ℕ) (globals : Names) (partials : Option Texts)
    (before after : Sunk) (result : Result (Unit {0}) Error)
    → l ≡ standard_language → RendersPage standard_setting l page text globals
    (option_map (λ (texts : Texts). texts) partials) before after result → RendersIn true page text globals partials before after result
standard_rendered page l text globals partials before after result same renders =
    subst (λ p. RendersPage standard_setting standard_language page text globals p before after result) (texts_are partials)
    (subst (λ m. RendersPage standard_setting m page text globals (option_map (λ (texts : Texts). texts) partials) before after result) same
    renders)

-- the language that the options choose
pub chosen_rendered : (options : Options) (standard : Bool) (page : PageOptions) (text : List ℕ) (globals : Names) (partials : Option Texts)
    (before after : Sunk) (result : Result (Unit {0}) Error)
    → options.standard ≡ standard → page ≡ page_options options → RendersIn standard page text globals partials before after result
    → Renders options text globals partials before after result
chosen_rendered options standard page text globals partials before after result is same renders =
    subst (λ o. RendersIn options.standard o text globals partials before after result) same
    (subst (λ b. RendersIn b page text globals partials before after result) (sym is) renders)

appends_kept : (before between after : Option (List ℕ)) (more : List ℕ) → Appends before between more → Keeps between after
    → Appends before after more
appends_kept None between after more appended kept = tt
appends_kept (Some x) None after more appended kept = absurd appended
appends_kept (Some x) (Some y) None more appended kept = absurd kept
appends_kept (Some x) (Some y) (Some z) more appended kept = kept ∙ appended

-- what is done over a sink that has taken nothing, then a flush
pub Printed-settled : (Done : Sunk → Sunk → ℕ → Type 0) (start stop : Sunk)
    (before between after : Option (List ℕ)) (answered status : ℕ) (flushed : Bool)
    → Done start stop answered
    → start.taken ≡ [] → start.failures ≡ 0 → start.destination ≡ before → stop.lent ≡ start.lent → Grows start stop
    → between ≡ stop.destination → Keeps between after
    → status ≡ settled answered flushed → Printed Done before after status
Printed-settled Done start stop before between after answered status flushed done nothing none same_before same_lent grows same_between kept
    is =
    let begins : start ≡ sunk [] 0 before start.lent =
    ap (λ t. sunk t start.failures start.destination start.lent) nothing ∙ ap (λ n. sunk [] n start.destination start.lent) none
    ∙ ap (λ b. sunk [] 0 b start.lent) same_before in
    let ends : stop ≡ sunk stop.taken stop.failures stop.destination start.lent =
    ap (λ l. sunk stop.taken stop.failures stop.destination l) same_lent in
    record {
      taken = stop.taken;
      failures = stop.failures;
      destination = stop.destination;
      lent = start.lent;
      answered = answered;
      flushed = flushed;
      appended =
          subst (λ t. Appends before after t) (sym (grows.taken_is ∙ ap (λ t. t ++ grows.more) nothing))
          (appends_kept before between after grows.more
          (subst (λ b. Appends before b grows.more) (sym same_between)
          (subst (λ b. Appends b stop.destination grows.more) same_before grows.destination_is)) kept);
      done =
          subst (λ s. Done s (sunk stop.taken stop.failures stop.destination start.lent) answered) begins
          (subst (λ s. Done start s answered) ends done);
      status_is = is;
    }
