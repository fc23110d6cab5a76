-- The pages of what was read.
use Rattle.std.proofs.Common.{◌≡◌, ◌∙◌, ◌⊎◌, ℕ, List, Bool, Option, String, Global, BTreeMap, string_bytes, subst, sym, inl, inr}
use Rattle.std.specs.Prelude.{option_map}
use Rattle.std.specs.FinMap.{get}
use Rattle.liquid_files.specs.meaning.Files.{known_in}
use Rattle.liquid_partials.specs.meaning.Sources.{Texts, texts_in}
use Rattle.liquid_partials.proofs.EachLemmas.{get-named}
use Rattle.page_site.specs.meaning.Answers.{Answers}
use Rattle.page_site.specs.meaning.Faults.{partial_text}
use Rattle.liquid_page.specs.meaning.Command.{Ends, Fails, IsGiven, Pages, Site, Words}

pub partials_found : (partials : BTreeMap (String Global) (String Global)) (name : List ℕ)
    → get (texts_in partials) name ≡ partial_text partials name
partials_found partials name = get-named string_bytes partials name

pub pages_made : (answers : Texts → Answers) (files : List ℕ → Option (List ℕ)) (folders : Bool → List ℕ → Option (List (List ℕ)))
    (words : Words) (site : Site) (texts : Texts) (known left : List ℕ → Option (Option (List ℕ))) (before after : Option (List ℕ))
    (status : ℕ) → known ≡ known_in files → IsGiven files folders words site
    → ((name : List ℕ) → get texts name ≡ site.partials name)
    → Ends (answers texts) site known left before after words.output status ⊎ Fails known left before after status
    → Pages answers files folders words left before after status
pages_made answers files folders words site texts known left before after status is given found (inl ends) =
    inl (
      site,
      texts,
      given,
      found,
      subst (λ (k : List ℕ → Option (Option (List ℕ))). Ends (answers texts) site k left before after words.output status) is ends,
    )
pages_made answers files folders words site texts known left before after status is given found (inr fails) =
    inr (subst (λ (k : List ℕ → Option (Option (List ℕ))). Fails k left before after status) is fails)
