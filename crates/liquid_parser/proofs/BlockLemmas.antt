-- What the cursor over a block's elements returns.
use Rattle.std.proofs.Common.{◌≡◌, ℕ, true, List, ◌∷◌, Option, Some, None, Result, Ok, Err, sym, ap, ◌∙◌, subst}
use Rattle.std.specs.Prelude.{IfSome, if◌then◌else◌, bytes_eq}
use Rattle.liquid_error.specs.meaning.Refusal.{Refusal, ok_then}
use Rattle.liquid_grammar.specs.meaning.Cover.{Element, raw, tag_element, expression, invalid, IsElement, Cover}
use Rattle.liquid_grammar.specs.meaning.Tokens as token
use Rattle.liquid_parser.specs.declared.cursor.element.BlockElement.TheVariants as cursor
use Rattle.liquid_parser.specs.declared.cursor.tag.Tag.{Tag}
use Rattle.liquid_parser.specs.meaning.BlockReading.{or_end, handed_out, following_first}
use Rattle.liquid_parser.specs.meaning.ElementReading.{element_checked}
use Rattle.liquid_parser.specs.meaning.Elements.{StandsFor}
use Rattle.liquid_parser.specs.meaning.Handed.{handed, expect_nothing}
use Rattle.liquid_parser.specs.meaning.Plugins.{AreTokens}
use Rattle.liquid_parser.proofs.EscapeLemmas.{taken}

-- an element that is an end tag, or is not
module _ (source end_name following : List ℕ) where
  pub end_tag : (x : Tag) (e : Element) → StandsFor (cursor.Tag x) source following e → bytes_eq x.name.now end_name ≡ true
      → (t : token.Tag) × AreTokens x.tokens (handed source t) × (or_end source end_name e ≡ ok_then (expect_nothing (handed source t))
      (λ _. Ok None))
  end_tag x (tag_element t text) m is = (
    t,
    m.0.tokens_are,
    ap (λ b. if b then ok_then (expect_nothing (handed source t)) (λ _. Ok None) else Ok (Some (tag_element t text)))
        (ap (λ n. bytes_eq n end_name) (sym m.0.name_is) ∙ is),
  )
  end_tag x (raw text) m is = absurd m
  end_tag x (expression c text) m is = absurd m
  end_tag x (invalid text) m is = absurd m

-- the first element of those that are left
module _ (source end_name place following : List ℕ) (e : Element) (es : List Element) where
  pub first_out : IsElement place following e → Cover place es → element_checked source e ≡ Ok tt
      → (handed_out source end_name es ≡ or_end source end_name e) × Cover following (following_first es)
  first_out is c fine =
      let t = taken place following e es is c in (
        ap (handed_out source end_name) t.is ∙ ap (λ r. ok_then r (λ _. or_end source end_name e)) fine,
        subst (λ xs. Cover following (following_first xs)) (sym t.is) t.cover,
      )

  pub first_fault : (o : Option Refusal) → IsElement place following e → Cover place es → IfSome o (λ r. element_checked source e ≡ Err r)
      → IfSome o (λ r. handed_out source end_name es ≡ Err r) × Cover following (following_first es)
  first_fault o is c fault =
      let t = taken place following e es is c in (go o t.is fault, subst (λ xs. Cover following (following_first xs)) (sym t.is) t.cover)
    where
      go : (o : Option Refusal) {others : List Element} → es ≡ e ∷ others → IfSome o (λ r. element_checked source e ≡ Err r)
          → IfSome o (λ r. handed_out source end_name es ≡ Err r)
      go None is h = tt
      go (Some r) is h = ap (handed_out source end_name) is ∙ ap (λ x. ok_then x (λ _. or_end source end_name e)) h

-- a result after an equal one
pub same_fault : {A : Type 0} (o : Option Refusal) (m n : Result A Refusal) → m ≡ n → IfSome o (λ r. n ≡ Err r) → IfSome o (λ r. m ≡ Err r)
same_fault None m n e h = tt
same_fault (Some r) m n e h = e ∙ h
