-- What inclusions render does not depend on hidden globals.
use Rattle.std.proofs.Common.{◌≡◌, ℕ, List, [], ◌∷◌, ◌++◌, length, Result, Ok, Err, refl, ap, ◌∙◌}
use Rattle.std.specs.FinMap.{empty}
use Rattle.liquid_error.specs.meaning.Refusal.{Refusal, ok_then}
use Rattle.liquid_value.specs.meaning.Members.{put_member}
use Rattle.liquid_value.specs.meaning.Tree.{Members, no_members}
use Rattle.liquid_value.specs.meaning.Render.{render}
use Rattle.liquid_runtime.specs.meaning.Erased.{erase}
use Rattle.liquid_runtime.specs.meaning.Maps.{Names}
use Rattle.liquid_runtime.specs.meaning.View.{View}
use Rattle.liquid_plugins.specs.meaning.Chain.{ChainShape, FilterMeaning, chain_value, filtered}
use Rattle.liquid_plugins.specs.meaning.Discreet.{Discreet, hiding}
use Rattle.liquid_plugins.specs.meaning.Evaluation.{evaluate}
use Rattle.liquid_plugins.specs.meaning.Turning.{answers}
use Rattle.liquid_plugins.proofs.Hiding.{answers_hide, evaluate_hidden}
use Rattle.liquid_tags.specs.meaning.Partials.{Pair}
use Rattle.jekyll_tags.specs.declared.inclusion.JekyllInclusionShape.{JekyllInclusionShape}
use Rattle.jekyll_tags.specs.meaning.Inclusions.{chain_text, inclusion_nodes, inclusion_turn, joined_texts, members_given, partial_for}

then_same : {A B : Type 0} (r : Result A Refusal) (f g : A → Result B Refusal) → ((x : A) → f x ≡ g x) → ok_then r f ≡ ok_then r g
then_same (Ok x) f g e = e x
then_same (Err refusal) f g e = refl

members_hidden : {Reg : Type 0} (g : Names) (v : View Reg) (ms : Members) (ps : List Pair)
    → members_given (hiding g v) ms ps ≡ members_given (hiding empty v) ms ps
members_hidden g v ms [] = refl
members_hidden g v ms (p ∷ ps) =
    ap (λ r. ok_then r (λ t. members_given (hiding g v) (put_member p.0 t ms) ps)) (evaluate_hidden g v p.1)
    ∙ then_same (evaluate (hiding empty v) p.1) (λ t. members_given (hiding g v) (put_member p.0 t ms) ps)
    (λ t. members_given (hiding empty v) (put_member p.0 t ms) ps) (λ t. members_hidden g v (put_member p.0 t ms) ps)

module _ {F Reg : Type 0} (m : FilterMeaning F) where
  chain_hidden : (g : Names) (v : View Reg) (c : ChainShape F) → chain_value m c (hiding g v) ≡ chain_value m c (hiding empty v)
  chain_hidden g v c = ap (λ r. ok_then r (filtered m (erase (hiding empty v)) c.filters)) (evaluate_hidden g v c.entry)

  pub texts_hidden : (g : Names) (v : View Reg) (cs : List (ChainShape F))
      → joined_texts m (hiding g v) cs ≡ joined_texts m (hiding empty v) cs
  texts_hidden g v [] = refl
  texts_hidden g v (c ∷ cs) =
      ap (λ r. ok_then (ok_then r (λ t. Ok (render t))) (λ text. ok_then (joined_texts m (hiding g v) cs) (λ rest. Ok (text ++ rest))))
      (chain_hidden g v c)
      ∙ ap (λ r. ok_then (chain_text m (hiding empty v) c) (λ text. ok_then r (λ rest. Ok (text ++ rest)))) (texts_hidden g v cs)

  turn_hidden : (i : JekyllInclusionShape F) (g : Names) (v : View Reg)
      → inclusion_turn m i (hiding g v) ≡ inclusion_turn m i (hiding empty v)
  turn_hidden i g v =
      ap (λ r. ok_then r (λ name. ok_then (members_given (hiding g v) no_members i.pairs) (λ ms.
      Ok (partial_for i.tag name (length i.pairs) ms)))) (texts_hidden g v i.name)
      ∙ ap (λ r. ok_then (joined_texts m (hiding empty v) i.name) (λ name. ok_then r (λ ms.
      Ok (partial_for i.tag name (length i.pairs) ms)))) (members_hidden g v no_members i.pairs)

  pub inclusions_hide : Discreet {Reg = Reg} (inclusion_nodes m)
  inclusions_hide = record {
    start = λ i g v. answers_hide (Ok 1) tt (λ w. w) (λ h w. refl) g v;
    turn = λ i p g v. ap (λ r. answers r p (hiding g v)) (turn_hidden i g v)
        ∙ answers_hide (inclusion_turn m i (hiding empty v)) p (λ w. w) (λ h w. refl) g v;
  }
