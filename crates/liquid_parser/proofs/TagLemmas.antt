-- A text that is a tag, as an element.
use Rattle.std.proofs.Common.{◌≡◌, ◌⊎◌, inl, inr, ℕ, ◌==◌, true, false, List, [], ◌∷◌, length, refl, sym, subst, arith, eqb-true}
use Rattle.std.proofs.lemmas.List.{append-nil}
use Rattle.std.specs.Borrow.{Bor}
use Rattle.liquid_grammar.specs.meaning.Cover.{Element, raw, tag_element, expression, invalid, IsElement}
use Rattle.liquid_grammar.specs.meaning.Elements.{Means}
use Rattle.liquid_grammar.specs.meaning.Tokens.{Tag, TagRule}
use Rattle.liquid_grammar.specs.declared.element.ChainText.{ChainText}
use Rattle.liquid_grammar.specs.declared.element.Element.{Element as CodeElement}
use Rattle.liquid_grammar.specs.declared.element.Element.TheVariants as code
use Rattle.liquid_grammar.specs.declared.element.TagText.{TagText}
use Rattle.liquid_parser.specs.meaning.WholeTag.{WholeTag}

pub tag_alone : (s : List ℕ) (t : Tag) → TagRule s [] t → IsElement s [] (tag_element t s)
tag_alone s t m = record { joined = sym (append-nil s); kind = m }

pub no_other : (e : CodeElement) (s : List ℕ) (t : Tag) → Means e (tag_element t s) → ((x : Bor (List ℕ)) × e ≡ code.Raw x)
    ⊎ (((x : ChainText) × e ≡ code.Expression x) ⊎ ((x : Bor (List ℕ)) × e ≡ code.Invalid x)) → ⊥
no_other e s t m (inl is) = subst (λ x. Means x (tag_element t s)) is.1 m
no_other e s t m (inr (inl is)) = subst (λ x. Means x (tag_element t s)) is.1 m
no_other e s t m (inr (inr is)) = subst (λ x. Means x (tag_element t s)) is.1 m

pub tag_found : (s rest : List ℕ) (found : TagText) (e : Element) → IsElement s rest e → Means (code.Tag found) e → rest ≡ [] → WholeTag s
tag_found s rest found (raw text) is m empty = absurd m
tag_found s rest found (tag_element t text) is m empty = record { tag = t; match = subst (λ r. TagRule s r t) empty is.kind }
tag_found s rest found (expression c text) is m empty = absurd m
tag_found s rest found (invalid text) is m empty = absurd m

pub is_nothing : (xs : List ℕ) → (length xs == 0) ≡ true → xs ≡ []
is_nothing [] e = refl
is_nothing (x ∷ xs) e = absurd (omega (arith, eqb-true (length (x ∷ xs)) 0 e))

pub is_something : (xs : List ℕ) → (length xs == 0) ≡ false → xs ≡ [] → ⊥
is_something [] e n = cc
is_something (x ∷ xs) e n = cc
