-- What blocks of code render does not depend on hidden globals.
use Rattle.std.proofs.Common.{◌≡◌, ℕ, List, [], ◌++◌, codes, Option, None, Some, Ok, ap, ◌∙◌, refl}
use Rattle.std.specs.FinMap.{empty}
use Rattle.liquid_scalar.specs.meaning.Scalar.{text}
use Rattle.liquid_runtime.specs.meaning.Maps.{Names}
use Rattle.liquid_runtime.specs.meaning.View.{View}
use Rattle.liquid_plugins.specs.meaning.Discreet.{Discreet, hiding}
use Rattle.liquid_plugins.specs.meaning.Expression.{no_indexes, variable}
use Rattle.liquid_plugins.specs.meaning.Turning.{answers}
use Rattle.liquid_plugins.specs.meaning.Turns.{text_turn}
use Rattle.liquid_plugins.proofs.Hiding.{answers_hide, try_hidden}
use Rattle.jekyll_tags.specs.declared.highlight.HighlightShape.{HighlightShape}
use Rattle.jekyll_tags.specs.meaning.Seen.{rendered, text_seen}
use Rattle.jekyll_tags.specs.meaning.Highlights.{figure, highlight_nodes, turn_at}

module _ {Reg : Type 0} where
  pub text_hidden : (name : List ℕ) (g : Names) (v : View Reg) → text_seen name (hiding g v) ≡ text_seen name (hiding empty v)
  text_hidden name g v = ap rendered (try_hidden g v (variable (text name) no_indexes))

  turn_hidden : (h : HighlightShape) (p : Option (List ℕ)) (g : Names) (v : View Reg)
      → turn_at h p (hiding g v) ≡ turn_at h p (hiding empty v)
  turn_hidden h None g v = refl
  turn_hidden h (Some code) g v =
      ap (λ front. text_turn ((front ++ figure h.language code) ++ text_seen (codes "highlighter_suffix") (hiding g v)))
      (text_hidden (codes "highlighter_prefix") g v)
      ∙ ap (λ back. text_turn ((text_seen (codes "highlighter_prefix") (hiding empty v) ++ figure h.language code) ++ back))
      (text_hidden (codes "highlighter_suffix") g v)

  pub highlights_hide : Discreet {Reg = Reg} highlight_nodes
  highlights_hide = record {
    start = λ h g v. answers_hide (Ok None) tt (λ w. w) (λ k w. refl) g v;
    turn = λ h p g v. ap (λ t. answers (Ok t) p (hiding g v)) (turn_hidden h p g v)
        ∙ answers_hide (Ok (turn_at h p (hiding empty v))) p (λ w. w) (λ k w. refl) g v;
  }
