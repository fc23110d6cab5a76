-- What a text comes to, by how it was rendered.
use Rattle.std.proofs.Common.{◌≡◌, ◌∙◌, ℕ, List, [], Option, Some, None, Result, Ok, Err, IfOk, String, Global, BTreeMap, subst, sym, refl}
use Rattle.std.specs.Prelude.{IfErr, ◌≢◌}
use Rattle.liquid_error.specs.declared.error.Error.{Error}
use Rattle.liquid_value.specs.declared.value.Value.{Value}
use Rattle.liquid_value.specs.meaning.View.{members_view}
use Rattle.liquid_runtime.specs.meaning.Maps.{names_of}
use Rattle.liquid_parser.specs.meaning.Lang.{Lang}
use Rattle.liquid_template.specs.meaning.Sunk.{Sunk}
use Rattle.liquid_partials.specs.meaning.Each.{each}
use Rattle.liquid_partials.specs.meaning.Sources.{Texts}
use Rattle.liquid_pages.specs.declared.options.PageOptions.{PageOptions}
use Rattle.liquid_pages.specs.meaning.Pages.{Renders, Settings}
use Rattle.page_site.specs.declared.engine.Failure.{Failure}
use Rattle.page_site.specs.declared.engine.Failure.TheVariants.{Memory}
use Rattle.liquid_page.specs.meaning.Answered.{Answered, ComesTo}

module _ {Reg F T P L B Q : Type 0} (rewritten : List ℕ → List ℕ) (s : Settings Reg F T P B Q) (l : Lang F T L B) (options : PageOptions)
    (texts : Texts) (text read : List ℕ) (read_as : read ≡ rewritten text) (globals : BTreeMap (String Global) Value) (given : Option Texts)
    (before after : Sunk) (result : Result (Unit {0}) Error) (is : given ≡ Some (each rewritten texts)) (empty : before.taken ≡ [])
    (renders : Renders s l options read (names_of globals) given before after result) where
  pub answered : (page : Option (List ℕ)) → ComesTo page after.taken result
      → Answered rewritten s l options texts text (members_view globals.entries) page
  answered page comes = record {
    globals = globals;
    names_are = refl;
    before = before;
    after = after;
    result = result;
    is_empty = empty;
    renders = subst (λ (r : List ℕ). Renders s l options r (names_of globals) (Some (each rewritten texts)) before after result) read_as
        (subst (λ (g : Option Texts). Renders s l options read (names_of globals) g before after result) is renders);
    comes = comes;
  }

  pub answered_ok : {V E : Type 0} (r : Result V E) (view : V → List ℕ) → result ≡ Ok tt
      → IfOk r (λ page. ComesTo (Some (view page)) after.taken (Ok tt))
      → IfOk r (λ page. Answered rewritten s l options texts text (members_view globals.entries) (Some (view page)))
  answered_ok (Ok page) view ok comes =
      answered (Some (view page)) (subst (λ (a : Result (Unit {0}) Error). ComesTo (Some (view page)) after.taken a) (sym ok) comes)
  answered_ok (Err e) view ok comes = comes

  pub answered_none : {V : Type 0} (r : Result V Failure) → result ≡ Ok tt
      → IfErr r (λ failure. failure ≢ Memory → ComesTo None after.taken (Ok tt))
      → IfErr r (λ failure. failure ≢ Memory → Answered rewritten s l options texts text (members_view globals.entries) None)
  answered_none (Ok page) ok comes = comes
  answered_none (Err failure) ok comes = λ other.
      answered None (subst (λ (a : Result (Unit {0}) Error). ComesTo None after.taken a) (sym ok) (comes other))
