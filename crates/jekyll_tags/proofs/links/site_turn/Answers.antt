use Rattle.std.proofs.Common.{subst}
use Rattle.liquid_error.specs.meaning.Told.{Gives}
use Rattle.liquid_value.specs.meaning.View.{view}
use Rattle.liquid_plugins.specs.meaning.TurnOf.{turn_of}
use Rattle.jekyll_tags.proofs.LinkLemmas.{post_turn}
use Rattle.jekyll_tags.proofs.links.site_turn.Goals as goal

pub returns-in_ok-wanted-in-PostUrl : goal.returns-in_ok-wanted-in-PostUrl
returns-in_ok-wanted-in-PostUrl c =
    rw c.in-PostUrl.is (subst (λ m. Gives turn_of c.url_turn-in-PostUrl.result m) (post_turn c.args.name.now (view c.args.site.now) _ _
    c.in_ok-wanted-in-PostUrl.ensures c.post_url.ensures) c.url_turn-in-PostUrl.ensures)
