-- What tags that write a URL render does not depend on hidden globals.
use Rattle.std.proofs.Common.{◌≡◌, ℕ, List, [], codes, Result, Ok, refl, ap, ◌∙◌}
use Rattle.std.specs.FinMap.{empty}
use Rattle.std.specs.Option.{unwrap_or}
use Rattle.liquid_error.specs.meaning.Refusal.{Refusal, ok_then}
use Rattle.liquid_scalar.specs.meaning.Scalar.{text}
use Rattle.liquid_value.specs.meaning.Tree.{Tree, nil}
use Rattle.liquid_runtime.specs.meaning.Maps.{Names}
use Rattle.liquid_runtime.specs.meaning.View.{View}
use Rattle.liquid_plugins.specs.meaning.Chain.{FilterMeaning}
use Rattle.liquid_plugins.specs.meaning.Discreet.{Discreet, hiding}
use Rattle.liquid_plugins.specs.meaning.Expression.{no_indexes, variable}
use Rattle.liquid_plugins.specs.meaning.Turning.{answers}
use Rattle.liquid_plugins.proofs.Hiding.{answers_hide, try_hidden}
use Rattle.jekyll_tags.specs.declared.links.JekyllLinkShape.{JekyllLinkShape}
use Rattle.jekyll_tags.specs.laws.Hidden.{texts_hidden}
use Rattle.jekyll_tags.specs.meaning.Inclusions.{joined_texts}
use Rattle.jekyll_tags.specs.meaning.Links.{link_nodes, link_turn, site_seen, site_turn}

module _ {F Reg : Type 0} (m : FilterMeaning F) where
  site_hidden : (g : Names) (v : View Reg) → site_seen (hiding g v) ≡ site_seen (hiding empty v)
  site_hidden g v = ap (λ found. unwrap_or found nil) (try_hidden g v (variable (text (codes "site")) no_indexes))

  turn_hidden : (l : JekyllLinkShape F) (g : Names) (v : View Reg) → link_turn m l (hiding g v) ≡ link_turn m l (hiding empty v)
  turn_hidden l g v =
      ap (λ r. ok_then r (λ name. site_turn l.tag name (site_seen (hiding g v)))) (texts_hidden m g v l.name)
      ∙ ap (λ site. ok_then (joined_texts m (hiding empty v) l.name) (λ name. site_turn l.tag name site)) (site_hidden g v)

  pub links_hide : Discreet {Reg = Reg} (link_nodes m)
  links_hide = record {
    start = λ l g v. answers_hide (Ok 1) tt (λ w. w) (λ h w. refl) g v;
    turn = λ l p g v. ap (λ r. answers r p (hiding g v)) (turn_hidden l g v)
        ∙ answers_hide (link_turn m l (hiding empty v)) p (λ w. w) (λ h w. refl) g v;
  }
