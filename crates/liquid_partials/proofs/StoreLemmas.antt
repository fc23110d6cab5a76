-- What a store finds, by its source and its language, and what it returns for a request.
use Rattle.std.proofs.Common.{◌≡◌, ℕ, Bool, true, false, List, Option, Some, None, is_some, Result, Ok, Err, refl, ap, sym, ◌∙◌, subst}
use Rattle.std.specs.Prelude.{option_map, option_and_then, IfOk}
use Rattle.std.specs.FinMap.{get, keys}
use Rattle.liquid_error.specs.meaning.Refusal.{Refusal, ok_then}
use Rattle.liquid_grammar.proofs.CoverLemmas.{cover_of}
use Rattle.liquid_runtime.specs.meaning.Maps.{NameMap}
use Rattle.liquid_runtime.proofs.MapLaws.{same_names}
use Rattle.liquid_plugins.specs.meaning.Nodes.{NodeShape, Nodes}
use Rattle.liquid_parser.specs.meaning.Lang.{Lang}
use Rattle.liquid_parser.specs.meaning.Reading.{Reads, answer}
use Rattle.liquid_template.specs.meaning.Partials.{Found, partial_in, tree_in, read_tree, unknown_partial}
use Rattle.liquid_partials.specs.meaning.Sources.{Texts}
use Rattle.liquid_partials.specs.meaning.Compiled.{as_tree, FoundAs, Compiled, OneStore}
use Rattle.liquid_partials.specs.meaning.Kept.{reading, readings, tried}
use Rattle.liquid_partials.proofs.EachLemmas.{get-each, keys-each, contains-each}

abbrev IsTrueBool : Bool → Type 0
IsTrueBool true = Unit {0}
IsTrueBool false = ⊥

pub if_ok : {A E : Type 0} {P Q : A → Type 0} (r : Result A E) → ((x : A) → P x → Q x) → IfOk r P → IfOk r Q
if_ok (Ok x) f h = f x h
if_ok (Err e) f h = tt

module _ {F T P B : Type 0} (l : Lang F T P B) where
  pub reading_reads : (text : List ℕ) → Reads l text (reading l text)
  unfolding reading
  reading_reads text = let o = cover_of text in record { elements = o.elements; cover = o.cover; is = refl }

  pub one_answer : (text : List ℕ) (a : Result (List (NodeShape F T B)) Refusal) → Reads l text a → a ≡ reading l text
  unfolding reading
  one_answer text a r = r.is ∙ ap (answer l text) ((cover_of text).only r.elements r.cover)

  found_as : (o : Option (List ℕ)) → FoundAs l o (option_map (λ text. as_tree (reading l text)) o)
  found_as None = refl
  found_as (Some text) = (reading l text, reading_reads text, refl)

  pub compiled : (texts : Texts) → Compiled l texts (readings l texts)
  compiled texts name =
      subst (FoundAs l (get texts name)) (sym (get-each (λ text. as_tree (reading l text)) texts name)) (found_as (get texts name))

  same_found : (o : Option (List ℕ)) (a b : Option (Result (Nodes F T B) Refusal)) → FoundAs l o a → FoundAs l o b → b ≡ a
  same_found None a b h k = k ∙ sym h
  same_found (Some text) a b h k = k.2 ∙ ap (λ x. Some (as_tree x)) (one_answer text k.0 k.1 ∙ sym (one_answer text h.0 h.1)) ∙ sym h.2

  pub one_store : (texts : Texts) (finds others : Found F T B) → Compiled l texts finds → Compiled l texts others → others ≡ finds
  one_store texts finds others h k = same_names _ _ (λ q. same_found (get texts q) (get finds q) (get others q) (h q) (k q))

  pub the_store : OneStore l
  the_store texts = (readings l texts, compiled texts, λ others k. one_store texts (readings l texts) others (compiled texts) k)

  abbrev tried_of : Option (Result (Nodes F T B) Refusal) → Result (Option (Nodes F T B)) Refusal
  tried_of found = elim found [ None ↦ Ok None | Some answer ↦ ok_then answer (λ tree. Ok (Some tree)) ]

  nothing_there : {A : Type 0} (o : Option A) → is_some o ≡ false → o ≡ None
  nothing_there None e = refl
  nothing_there (Some x) e = absurd (subst IsTrueBool e tt)

  -- nothing is read for an unknown name
  pub absent : (texts : Texts) (name : List ℕ) → is_some (get texts name) ≡ false → tried (readings l texts) name ≡ Ok None
  absent texts name e =
      ap tried_of (get-each (λ text. as_tree (reading l text)) texts name
      ∙ ap (option_map (λ text. as_tree (reading l text))) (nothing_there (get texts name) e))

  -- for a known name its text is read
  pub present : (texts : Texts) (name text : List ℕ) (a : Result (Nodes F T B) Refusal) → get texts name ≡ Some text
      → as_tree (reading l text) ≡ a → tried (readings l texts) name ≡ ok_then a (λ tree. Ok (Some tree))
  present texts name text a e r =
      ap tried_of (get-each (λ text. as_tree (reading l text)) texts name ∙ ap (option_map (λ text. as_tree (reading l text))) e
      ∙ ap (λ x. Some x) r)

  pub contains-readings : (texts : Texts) (name : List ℕ) → is_some (get (readings l texts) name) ≡ is_some (get texts name)
  contains-readings texts name = contains-each (λ text. as_tree (reading l text)) texts name

  pub keys-readings : (texts : Texts) → keys (readings l texts) ≡ keys texts
  keys-readings texts = keys-each (λ text. as_tree (reading l text)) texts

-- the result of a request, by what was read for its name
module _ {A : Type 0} (finds : NameMap (Result A Refusal)) (name : List ℕ) where
  abbrev tried_as : Option (Result A Refusal) → Result (Option A) Refusal
  tried_as found = elim found [ None ↦ Ok None | Some answer ↦ ok_then answer (λ tree. Ok (Some tree)) ]

  abbrev IsNothing : Result (Option A) Refusal → Type 0
  IsNothing (Ok (Some y)) = ⊥
  IsNothing (Ok None) = Unit {0}
  IsNothing (Err r) = ⊥

  none_there : (o : Option (Result A Refusal)) → IsNothing (tried_as o) → o ≡ None
  none_there None h = refl
  none_there (Some (Ok y)) h = absurd h
  none_there (Some (Err r)) h = absurd h

  pub found_none : tried finds name ≡ Ok None → get finds name ≡ None
  found_none e = none_there (get finds name) (subst IsNothing (sym e) tt)

  abbrev partial_as : Option (Result A Refusal) → Result A Refusal
  partial_as found = elim found [ None ↦ Err (unknown_partial name (keys finds)) | Some reading ↦ reading ]

  pub partial_found : (o : Option (Result A Refusal)) → get finds name ≡ o → partial_in finds name ≡ partial_as o
  partial_found o e = ap partial_as e

  pub tree_found : (o : Option (Result A Refusal)) → get finds name ≡ o → tree_in finds name ≡ option_and_then read_tree o
  tree_found o e = ap (option_and_then read_tree) e

  -- what is tried is the tree that is found, if there is no fault
  pub tried_tree : (o : Option A) → tried finds name ≡ Ok o → o ≡ tree_in finds name
  tried_tree o e = go (get finds name) e
    where
      go : (found : Option (Result A Refusal)) → tried_as found ≡ Ok o → o ≡ option_and_then read_tree found
      go None t = cc
      go (Some (Ok tree)) t = cc
      go (Some (Err refusal)) t = cc
