-- What the stores find, as functions of what they hold.
use Rattle.std.specs.Prelude.{◌≡◌, ℕ, true, List, [], unwrap_or, String, Option, None, Some, Result, Ok, Err}
use Rattle.std.specs.BTreeMap.{BTreeMap}
use Rattle.std.specs.FinMap.{contains_key, get}
use Rattle.std.specs.declared.alloc.Global.{Global}
use Rattle.std.specs.declared.rc.Rc.{Rc}
use Rattle.liquid_error.specs.declared.error.Error.{Error}
use Rattle.liquid_error.specs.meaning.Refusal.{Refusal, plain, ok_then}
use Rattle.liquid_error.specs.meaning.Told.{told}
use Rattle.liquid_grammar.proofs.CoverLemmas.{cover_of}
use Rattle.liquid_runtime.specs.meaning.Maps.{NameMap, over}
use Rattle.liquid_plugins.specs.meaning.Registry.{by_name}
use Rattle.liquid_plugins.specs.meaning.Nodes.{NodeShape, Nodes}
use Rattle.liquid_parser.specs.meaning.Lang.{Lang}
use Rattle.liquid_parser.specs.meaning.Reading.{answer}
use Rattle.liquid_template.specs.declared.template.Template.{Template}
use Rattle.liquid_template.specs.meaning.Partials.{Found}
use Rattle.liquid_template.specs.meaning.TemplateOf.{template_nodes}
use Rattle.liquid_partials.specs.meaning.Each.{each}
use Rattle.liquid_partials.specs.meaning.Sources.{Texts}
use Rattle.liquid_partials.specs.meaning.Compiled.{as_tree}

module _ {F T P B : Type 0} (l : Lang F T P B) where
  -- the one result that a text is read as
  unfoldable pub reading : List ℕ → Result (List (NodeShape F T B)) Refusal
  reading text = answer l text (cover_of text).elements

  -- all texts of a source, each parsed
  abbrev pub readings : Texts → Found F T B
  readings texts = each (λ text. as_tree (reading text)) texts

-- the shapes of the nodes of a template that is shared
abbrev pub shared_nodes : {X N K Z F T B : Type 0} → (X → F) → (N → T) → (K → B) → Rc (Template X N K) Z → Nodes F T B
shared_nodes filter tag block template = template_nodes filter tag block template.value

module _ {A F T B : Type 0} (of : A → Nodes F T B) where
  -- what is kept of a text: its tree or its fault; an out-of-memory error is never kept
  abbrev pub kept_as : Result A Error → Result (Nodes F T B) Refusal
  kept_as (Ok template) = Ok (of template)
  kept_as (Err error) = Err (unwrap_or (told error) (plain []))

  abbrev pub all_kept : BTreeMap (String Global) (Result A Error) → Found F T B
  all_kept kept = each kept_as (by_name kept)

  -- what a store that keeps its results finds: what is kept, and for the other names the result of parsing their texts
  abbrev pub kept_or_read : {P : Type 0} → Lang F T P B → BTreeMap (String Global) (Result A Error) → Texts → Found F T B
  kept_or_read l kept texts = over (all_kept kept) (readings l texts)

module _ {X : Type 0} (kept : BTreeMap (String Global) X) (texts : Texts) where
  -- each name that is kept is one of the source's
  abbrev pub Known : Type 0
  Known = (name : List ℕ) → contains_key (by_name kept) name ≡ true → contains_key texts name ≡ true

  -- each of the source's names is kept
  abbrev pub HasAll : Type 0
  HasAll = (name : List ℕ) → contains_key texts name ≡ true → contains_key (by_name kept) name ≡ true

-- what is read for a name: nothing if the source doesn't have it, its tree, or its fault
abbrev pub tried : {A : Type 0} → NameMap (Result A Refusal) → List ℕ → Result (Option A) Refusal
tried finds name = elim (get finds name) [ None ↦ Ok None | Some answer ↦ ok_then answer (λ tree. Ok (Some tree)) ]
