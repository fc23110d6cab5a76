-- Words, one after another.
use Rattle.std.proofs.Common.{
  ◌≡◌,
  ◌∙◌,
  ◌∷◌,
  ◌++◌,
  ℕ,
  List,
  [],
  Bool,
  true,
  Option,
  Some,
  None,
  Result,
  Ok,
  Err,
  IfOk,
  OnOk,
  subst,
  sym,
  ap,
  append_assoc,
}
use Rattle.std.specs.Prelude.{flat_map}
use Rattle.std.specs.Option.{unwrap_or}
use Rattle.liquid_value.specs.meaning.Tree.{Members}
use Rattle.page_site.specs.meaning.Items.{ItemShape, items_at}
use Rattle.liquid_files.specs.meaning.Files.{known_in}
use Rattle.page_site.specs.declared.data_files.read.Format.{Format}
use Rattle.page_site.specs.meaning.data_files.Document.{DataGiven}
use Rattle.page_site.specs.meaning.data_files.Merged.{merged}
use Rattle.page_site.specs.meaning.Items.{MayBe}
use Rattle.liquid_page.specs.meaning.Command.{at_output, items_for, output_folder}
use Rattle.liquid_page.specs.meaning.Names.{ReadsAll, ReadsOver, format_at, list_name_at, name_in, name_over, path_in, path_named, under}

pub items_joined : {E : Type 0} (r : Result (Unit {0}) E) (f : List ℕ → List ItemShape) (words : List (List ℕ)) (word : List ℕ)
    (rest : List (List ℕ)) (old between new : List ItemShape) → words ≡ word ∷ rest → between ≡ old ++ f word
    → OnOk r (new ≡ between ++ flat_map f rest) → OnOk r (new ≡ old ++ flat_map f words)
items_joined (Ok _) f words word rest old between new is first all =
    all ∙ ap (λ b. b ++ flat_map f rest) first ∙ append_assoc old (f word) (flat_map f rest) ∙ ap (λ w. old ++ flat_map f w) (sym is)
items_joined (Err e) f words word rest old between new is first all = all

pub data_joined : {E O : Type 0} (view : O → Members) (r : Result O E) (all : List ℕ → Option (List ℕ)) (words : List (List ℕ))
    (word : List ℕ) (rest : List (List ℕ)) (before between : Members) → words ≡ word ∷ rest → ReadsOver all word before between
    → IfOk r (λ read. ReadsAll all rest between (view read)) → IfOk r (λ read. ReadsAll all words before (view read))
data_joined view (Ok read) all words word rest before between is first others =
    subst (λ w. ReadsAll all w before (view read)) (sym is) (between, first, others)
data_joined view (Err e) all words word rest before between is first others = others

-- a file that is known has the bytes that were read
pub there_in : (all : List ℕ → Option (List ℕ)) (known : List ℕ → Option (Option (List ℕ))) (path bytes : List ℕ) → known ≡ known_in all
    → MayBe (known path) bytes → all path ≡ Some bytes
there_in all known path bytes is may = subst (λ (k : List ℕ → Option (Option (List ℕ))). MayBe (k path) bytes) is may

pub given_at : (all : List ℕ → Option (List ℕ)) (known : List ℕ → Option (Option (List ℕ))) (word path bytes : List ℕ) (format : Format)
    (name : Option (List ℕ)) (given before after : Members) → known ≡ known_in all → path ≡ path_in word → name ≡ name_in word
    → MayBe (known path) bytes → format_at path ≡ Some format → DataGiven format (unwrap_or name (list_name_at path)) bytes given
    → after ≡ merged before (under (name_over format name) given) → ReadsOver all word before after
given_at all known word path bytes format name given before after is at named may has_format read put = record {
  bytes = bytes;
  format = format;
  given = given;
  is_there = subst (λ p. all p ≡ Some bytes) at (there_in all known path bytes is may);
  has_format = subst (λ p. format_at p ≡ Some format) at has_format;
  is_read =
      subst (λ n. DataGiven format (unwrap_or n (list_name_at (path_in word))) bytes given) named
      (subst (λ p. DataGiven format (unwrap_or name (list_name_at p)) bytes given) at read);
  is_after = put ∙ ap (λ n. merged before (under (name_over format n) given)) named;
}

-- the files that words name, with what comes before their names
added_for : (folders : Bool → List ℕ → Option (List (List ℕ))) (output : Option (List ℕ)) (folder : List ℕ) (words : List (List ℕ))
    (items : List ItemShape) → folder ≡ output_folder output
    → items ≡ flat_map (λ word. items_at folder (path_named word) (folders true (path_named word))) words
    → items ≡ flat_map (items_for folders output) words
added_for folders output folder words items is added =
    added ∙ ap (λ f. flat_map (λ word. items_at f (path_named word) (folders true (path_named word))) words) is

pub planned : (folders : Bool → List ℕ → Option (List (List ℕ))) (output : Option (List ℕ)) (folder : List ℕ) (words : List (List ℕ))
    (items : List ItemShape) → folder ≡ output_folder output
    → items ≡ flat_map (λ word. items_at folder (path_named word) (folders true (path_named word))) words
    → output ≡ None → items ≡ at_output output (flat_map (items_for folders output) words)
planned folders output folder words items is added none =
    added_for folders output folder words items is added
    ∙ ap (λ (o : Option (List ℕ)). at_output o (flat_map (items_for folders output) words)) (sym none)

pub sent : {V E : Type 0} (r : Result V E) (view : V → List ItemShape) (folders : Bool → List ℕ → Option (List (List ℕ)))
    (output : Option (List ℕ)) (place folder : List ℕ) (words : List (List ℕ)) (items : List ItemShape)
    → folder ≡ output_folder output
    → items ≡ flat_map (λ word. items_at folder (path_named word) (folders true (path_named word))) words
    → output ≡ Some place → IfOk r (λ v. view v ≡ at_output (Some place) items)
    → IfOk r (λ v. view v ≡ at_output output (flat_map (items_for folders output) words))
sent (Ok v) view folders output place folder words items is added some to =
    to ∙ ap (at_output (Some place)) (added_for folders output folder words items is added)
    ∙ ap (λ (o : Option (List ℕ)). at_output o (flat_map (items_for folders output) words)) (sym some)
sent (Err e) view folders output place folder words items is added some to = to
