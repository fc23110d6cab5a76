-- A name and pairs are an inclusion.
use Rattle.std.proofs.Common.{◌≡◌, ℕ, List, Option, Result, Ok, Err, sym, ap, subst, ◌∙◌}
use Rattle.std.specs.Prelude.{IfSome}
use Rattle.liquid_error.specs.meaning.Refusal.{Refusal, ok_then}
use Rattle.liquid_parser.specs.meaning.Handed.{Tokens}
use Rattle.liquid_parser.specs.meaning.Lang.{Filters}
use Rattle.liquid_parser.proofs.StepLemmas.{then_refused}
use Rattle.liquid_plugins.specs.meaning.Chain.{ChainShape}
use Rattle.liquid_tags.specs.meaning.Partials.{Pair}
use Rattle.jekyll_tags.specs.declared.inclusion.JekyllInclusionShape.{JekyllInclusionShape}
use Rattle.jekyll_tags.specs.declared.plugin.JekyllTags.{JekyllTags}
use Rattle.jekyll_tags.specs.meaning.Given.{name_given, pairs_from, tag_given}

module _ {F : Type 0} (tag : JekyllTags) (filters : Filters F) (ts : Tokens) where
  abbrev with_pairs : List (ChainShape F) → List Pair → Result (JekyllInclusionShape F) Refusal
  with_pairs name pairs = Ok (record { tag = tag; name = name; pairs = pairs })

  abbrev after_name : List (ChainShape F) × Tokens → Result (JekyllInclusionShape F) Refusal
  after_name n = ok_then (pairs_from n.1.left) (with_pairs n.0)

  pub name_refused : (o : Option Refusal) → IfSome o (λ r. name_given tag filters ts ≡ Err r)
      → IfSome o (λ r. tag_given tag filters ts ≡ Err r)
  name_refused o refused = then_refused o (name_given tag filters ts) after_name refused

  module _ (name : List (ChainShape F)) (rest : Tokens) (named : name_given tag filters ts ≡ Ok (name, rest)) where
    pub pairs_refused : (o : Option Refusal) → IfSome o (λ r. pairs_from rest.left ≡ Err r)
        → IfSome o (λ r. tag_given tag filters ts ≡ Err r)
    pairs_refused o refused =
        subst (λ q. IfSome o (λ r. q ≡ Err r)) (sym (ap (λ r. ok_then r after_name) named))
        (then_refused o (pairs_from rest.left) (with_pairs name) refused)

    pub inclusion_read : (pairs : List Pair) → pairs_from rest.left ≡ Ok pairs
        → tag_given tag filters ts ≡ Ok (record { tag = tag; name = name; pairs = pairs })
    inclusion_read pairs read = ap (λ r. ok_then r after_name) named ∙ ap (λ r. ok_then r (with_pairs name)) read
