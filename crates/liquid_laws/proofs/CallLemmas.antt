-- What the tokens of the library's tags make in the standard language.
use Rattle.std.proofs.Common.{◌≡◌, ℕ, Bool, true, false, cond, List, [], ◌∷◌, codes, Some, None, Result, Ok, refl, sym, ap, ◌∙◌}
use Rattle.std.specs.Prelude.{bytes_eq, if◌then◌else◌, not, ◌&&◌}
use Rattle.std.proofs.lemmas.Slice.Eq.{bytes_eq-Decides}
use Rattle.liquid_error.specs.declared.place.Place.{Place}
use Rattle.liquid_error.specs.meaning.Refusal.{Refusal, ok_then}
use Rattle.liquid_parser.specs.meaning.Handed.{Token, Tokens, expect_identifier, expect_value, or_unexpected}
use Rattle.liquid_parser.specs.meaning.Lang.{Filters}
use Rattle.liquid_plugins.specs.meaning.Expression.{ExpressionShape}
use Rattle.liquid_tags.specs.declared.partial_call.call.Inclusion.{Inclusion}
use Rattle.liquid_tags.specs.declared.partial_call.call.Inclusion.TheVariants as inclusion
use Rattle.liquid_tags.specs.declared.tag_plugins.Tags.{Tags}
use Rattle.liquid_tags.specs.declared.tag_plugins.Tags.TheVariants.{Assign, Increment, Break, Continue, Include, Render}
use Rattle.liquid_tags.specs.declared.tags.TagShape.{TagShape}
use Rattle.liquid_tags.specs.declared.tags.TagShape.TheVariants.{Includes}
use Rattle.liquid_tags.specs.meaning.Asked.{next_as}
use Rattle.liquid_tags.specs.meaning.CallsGiven as library
use Rattle.liquid_tags.specs.meaning.CallsGiven.{colon, comma, pair_given, pairs_given}
use Rattle.liquid_tags.specs.meaning.Partials.{CallShape, Pair}
use Rattle.liquid_tags.specs.meaning.TagPlugins as library_tag
use Rattle.liquid_tags.proofs.PairLemmas.{going_on, pairs_step}
use Rattle.liquid_std.specs.meaning.inclusion.CallsGiven.{after_name, after_word, alone, begin_with_colon, by_for, by_with}
use Rattle.liquid_std.specs.meaning.inclusion.CallsGiven.{call_given, from_colon, from_value, pair_from, pairs_from}
use Rattle.liquid_std.specs.declared.tag_plugins.StdTags.TheVariants as tag
use Rattle.liquid_std.specs.declared.tags.StdTagShape.{StdTagShape}
use Rattle.liquid_std.specs.declared.tags.StdTagShape.TheVariants.{Library}
use Rattle.liquid_std.specs.meaning.TagPlugins.{call_node, call_node_given, tag_given}
use Rattle.liquid_laws.proofs.TokenLemmas.{made_from, same_value}

is_text : (t : Token) (b : Bool) (u : Unit {0}) → or_unexpected t (if b then Some (tt {0}) else None) ≡ Ok u → b ≡ true
is_text t true u is = refl
is_text t false u is = cc is

-- a token that the library reads as a comma is one
comma_is : (t : Token) (u : Unit {0}) → comma t ≡ Ok u → bytes_eq t.text (codes ",") ≡ true
comma_is t u is = is_text t (bytes_eq t.text (codes ",")) u is

-- the pairs of the library are read as the same pairs
pairs_kept : (ts : List Token) (ps : List Pair) → pairs_given ts ≡ Ok ps → pairs_from ts ≡ Ok ps
pairs_kept [] ps is = is
pairs_kept (c ∷ []) ps is =
    let read = made_from (comma c) (λ u. library.missing_after c) ps is in
    cc read.2
pairs_kept (c ∷ n ∷ []) ps is =
    let read = made_from (comma c) (λ u. ok_then (or_unexpected n (expect_identifier n)) (λ name. library.missing_after n)) ps is in
    let named = made_from (or_unexpected n (expect_identifier n)) (λ name. library.missing_after n) ps read.2 in
    cc named.2
pairs_kept (c ∷ n ∷ d ∷ []) ps is =
    let read =
    made_from (comma c) (λ u. ok_then (or_unexpected n (expect_identifier n)) (λ name. ok_then (colon d) (λ w.
    library.missing_after d))) ps is in
    let named =
    made_from (or_unexpected n (expect_identifier n)) (λ name. ok_then (colon d) (λ w. library.missing_after d)) ps read.2 in
    let signed = made_from (colon d) (λ w. library.missing_after d) ps named.2 in
    cc signed.2
pairs_kept (c ∷ n ∷ d ∷ e ∷ more) ps is =
    let with_pair : List ℕ → ExpressionShape → List Pair → Result (List Pair) Refusal = λ name value pairs. Ok ((name, value) ∷ pairs) in
    let read =
    made_from (comma c) (λ u. ok_then (or_unexpected n (expect_identifier n)) (λ name. ok_then (colon d) (λ w.
    ok_then (or_unexpected e (expect_value e)) (λ value. ok_then (pairs_given more) (with_pair name value))))) ps is in
    let named =
    made_from (or_unexpected n (expect_identifier n)) (λ name. ok_then (colon d) (λ w.
    ok_then (or_unexpected e (expect_value e)) (λ value. ok_then (pairs_given more) (with_pair name value)))) ps read.2 in
    let signed =
    made_from (colon d) (λ w. ok_then (or_unexpected e (expect_value e))
    (λ value. ok_then (pairs_given more) (with_pair named.0 value))) ps named.2 in
    let valued =
    made_from (or_unexpected e (expect_value e)) (λ value. ok_then (pairs_given more) (with_pair named.0 value)) ps signed.2 in
    let rest = made_from (pairs_given more) (with_pair named.0 valued.0) ps valued.2 in
    ap (λ b. cond b (pair_from n (d ∷ e ∷ more)) (pair_from c (n ∷ d ∷ e ∷ more))) (comma_is c read.0 read.1)
    ∙ ap (λ r. ok_then r (λ name. from_colon name n.following (d ∷ e ∷ more))) named.1
    ∙ ap (λ r. ok_then r (λ u. from_value named.0 d.following (e ∷ more))) signed.1
    ∙ ap (λ r. ok_then r (λ value. ok_then (pairs_from more) (with_pair named.0 value))) valued.1
    ∙ ap (λ r. ok_then r (with_pair named.0 valued.0)) (pairs_kept more rest.0 rest.1)
    ∙ rest.2

-- where the library reads pairs, no other word than a comma comes next
module _ (word : List ℕ) (other : bytes_eq (codes ",") word ≡ false) where
  no_word_in : (place : Place) (ts : List Token) (ps : List Pair) → pairs_given ts ≡ Ok ps
      → after_word word (record { following = place; left = ts }) ≡ None
  no_word_in place [] ps is = refl
  no_word_in place (c ∷ more) ps is =
      let read =
      made_from (comma c) (λ u. ok_then (pair_given (record { following = c.following; left = more })) going_on) ps
      (sym (pairs_step c more) ∙ is) in
      let same = (bytes_eq-Decides c.text (codes ",")).0 (comma_is c read.0 read.1) in
      let rest : Tokens = record { following = c.following; left = more } in
      ap (λ b. cond (b && not (begin_with_colon more)) (Some rest) None) (ap (λ text. bytes_eq text word) same ∙ other)

  no_word : (ts : Tokens) (ps : List Pair) → pairs_given ts.left ≡ Ok ps → after_word word ts ≡ None
  no_word ts ps is = no_word_in ts.following ts.left ps is

-- a call of the library passes no value
read_kept : (i : Inclusion) (ts : Tokens) (call : CallShape) → library.call_given ts ≡ Ok call → call_given i ts ≡ Ok (alone call)
read_kept i ts call is =
    let with_pairs : ExpressionShape → List Pair → Result CallShape Refusal = λ e ps. Ok (e, ps) in
    let value = made_from (next_as expect_value ts) (λ e. ok_then (pairs_given e.1.left) (with_pairs e.0)) call is in
    let pairs = made_from (pairs_given value.0.1.left) (with_pairs value.0.0) call value.2 in
    ap (λ r. ok_then r (λ e. after_name i e.0 e.1)) value.1
    ∙ ap (by_with i value.0.0 value.0.1) (no_word (codes "with") refl value.0.1 pairs.0 pairs.1)
    ∙ ap (by_for i value.0.0 value.0.1) (no_word (codes "for") refl value.0.1 pairs.0 pairs.1)
    ∙ ap (λ r. ok_then r (λ ps. Ok (alone (value.0.0, ps)))) (pairs_kept value.0.1.left pairs.0 pairs.1)
    ∙ ap (λ c. Ok (alone c)) (same_value (value.0.0, pairs.0) call pairs.2)

module _ {F : Type 0} where
  abbrev library_node : TagShape F → Result (StdTagShape F) Refusal
  library_node n = Ok (Library n)

  call_kept : (i : Inclusion) (ts : Tokens) (n : TagShape F) → library_tag.inclusion_given i ts ≡ Ok n
      → call_node_given i ts ≡ Ok (Library n)
  call_kept i ts n is =
      let included : CallShape → Result (TagShape F) Refusal = λ call. Ok (Includes i call.0 call.1) in
      let call = made_from (library.call_given ts) included n is in
      ap (λ r. ok_then r (λ c. Ok (call_node i c))) (read_kept i ts call.0 call.1)
      ∙ ap (λ m. Ok (Library m)) (same_value (Includes i call.0.0 call.0.1) n call.2)

  -- the tokens of a tag of the library make that tag
  pub tag_given_kept : (t : Tags) (filters : Filters F) (ts : Tokens) (n : TagShape F) → library_tag.tag_given t filters ts ≡ Ok n
      → tag_given (tag.Library t) filters ts ≡ Ok (Library n)
  tag_given_kept Assign filters ts n is = ap (λ r. ok_then r library_node) is
  tag_given_kept Increment filters ts n is = ap (λ r. ok_then r library_node) is
  tag_given_kept Break filters ts n is = ap (λ r. ok_then r library_node) is
  tag_given_kept Continue filters ts n is = ap (λ r. ok_then r library_node) is
  tag_given_kept Include filters ts n is = call_kept inclusion.Include ts n is
  tag_given_kept Render filters ts n is = call_kept inclusion.Render ts n is
