-- What an open shop's store finds, and what is shown when memory runs out and by the names that a sandbox sees.
use Rattle.std.proofs.Common.{◌≡◌, List, ℕ, Option, None, Some, Result, Err, sym, subst}
use Rattle.std.specs.Prelude.{IfSome}
use Rattle.liquid_error.specs.declared.error.Error.{Error}
use Rattle.liquid_error.specs.meaning.Refusal.{Refusal}
use Rattle.liquid_error.specs.meaning.Told.{told}
use Rattle.liquid_runtime.specs.meaning.Maps.{Names}
use Rattle.liquid_runtime.specs.meaning.View.{View}
use Rattle.liquid_plugins.specs.meaning.Nodes.{nodes_from}
use Rattle.liquid_template.specs.meaning.Rendering.{sandboxed_run}
use Rattle.liquid_template.specs.meaning.Sunk.{Sunk}
use Rattle.liquid_partials.specs.meaning.Compiled.{Compiled}
use Rattle.liquid_partials.specs.meaning.Sources.{Texts}
use Rattle.liquid_partials.proofs.RenderedLemmas.{RenderedBy-refused}
use Rattle.example_shop.specs.meaning.Languages.{the_language}
use Rattle.example_shop.specs.meaning.Pages.{
  ShopAnswer,
  ShopFound,
  ShopLang,
  shop_setting,
  the_partials,
  visit_names,
  FindsPartials,
  Follows,
  ReviewShown,
  SandboxShown,
}

-- what a store finds that was compiled from the same texts in a language of the same meaning
pub compiled_alike : (l k : ShopLang) (texts others : Texts) (found : ShopFound) → l ≡ k → texts ≡ others → Compiled l texts found
    → Compiled k others found
compiled_alike l k texts others found same_l same_texts compiled =
    subst (λ t. Compiled k t found) same_texts (subst (λ w. Compiled w texts found) same_l compiled)

pub partials_found : (l : ShopLang) (stored : Option ShopFound) (found : ShopFound) → stored ≡ Some found → l ≡ the_language
    → Compiled l the_partials found → FindsPartials stored
partials_found l stored found same_stored same_l compiled =
    subst FindsPartials (sym same_stored) (subst (λ k. Compiled k the_partials found) same_l compiled)

module _ (l : ShopLang) (found : Option ShopFound) where
  no_reason : (t : Option Refusal) (answer : ShopAnswer) → t ≡ None → IfSome t (λ refusal. answer ≡ Err refusal)
  no_reason None answer e = tt
  no_reason other answer e = subst (λ (t : Option Refusal). IfSome t (λ refusal. answer ≡ Err refusal)) (sym e) tt

  -- memory that runs out before anything is written is an outcome of each text
  pub nothing_shown : (names : Names) (source : List ℕ) (v : View (Unit {0})) (at : Sunk) (error : Error) → told error ≡ None
      → SandboxShown l found names source v at at v (Err error)
  nothing_shown names source v at error memory = λ answer reads.
      RenderedBy-refused (λ nodes. sandboxed_run (shop_setting found) names None (nodes_from nodes)) answer v at error
      (no_reason (told error) answer memory)

  pub same_names : (names others : Names) (source : List ℕ) (v left : View (Unit {0})) (before after : Sunk)
      (result : Result (Unit {0}) Error)
      → names ≡ others → SandboxShown l found names source v before after left result
      → SandboxShown l found others source v before after left result
  same_names names others source v left before after result e h =
      subst (λ ns. SandboxShown l found ns source v before after left result) e h

  -- memory that runs out before a review is an outcome of it
  pub no_review : (review : List ℕ) (v : View (Unit {0})) (at : Sunk) (error : Error) → told error ≡ None
      → ReviewShown l found review v at at v (Err error)
  no_review review v at error memory = record {
    answer = Err error;
    between = at;
    seen = v;
    shown = nothing_shown visit_names review v at error memory;
    followed = nothing_shown _ _ v at error memory;
  }

  -- a review, with what follows it
  pub reviewed : (review : List ℕ) (v seen left : View (Unit {0})) (before between after : Sunk) (answer result : Result (Unit {0}) Error)
      (names : Names)
      → names ≡ visit_names → SandboxShown l found names review v before between seen answer
      → Follows l found answer seen between after left result
      → ReviewShown l found review v before after left result
  reviewed review v seen left before between after answer result names e shown followed = record {
    answer = answer;
    between = between;
    seen = seen;
    shown = same_names names visit_names review v seen before between answer e shown;
    followed = followed;
  }
