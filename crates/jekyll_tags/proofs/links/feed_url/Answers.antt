use Rattle.std.proofs.Common.{◌≡◌, ◌∙◌, subst, string_bytes, IfOk}
use Rattle.liquid_value.specs.meaning.View.{view}
use Rattle.jekyll_tags.proofs.LinkLemmas.{feed_at}
use Rattle.jekyll_tags.proofs.links.feed_url.Goals as goal

pub returns : goal.returns
returns c =
    subst (λ m. IfOk c.absolute_url.result (λ text. string_bytes text ≡ m)) (feed_at (view c.args.site.now) _ _ _
    (c.as_str.ensures.value ∙ c.in_ok-own.ensures) (c.as_str-2.ensures.value ∙ c.in_ok-base.ensures)
    (c.as_str-3.ensures.value ∙ c.in_ok-path.ensures)) c.absolute_url.ensures
