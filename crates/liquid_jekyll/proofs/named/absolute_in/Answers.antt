use Rattle.std.proofs.Common.{◌≡◌, ◌∙◌, Ok, codes, subst}
use Rattle.liquid_error.specs.meaning.Told.{Gives}
use Rattle.liquid_value.specs.meaning.View.{view as tree_of}
use Rattle.liquid_jekyll.specs.meaning.value.Urls.{absolute_url}
use Rattle.liquid_jekyll.specs.meaning.Seen.{member_text}
use Rattle.liquid_jekyll.proofs.named.absolute_in.Goals as goal

pub returns : goal.returns
returns c =
    let site = tree_of c.args.site.now in
    let input = tree_of c.args.input.now in
    let url : c.as_str.result.now ≡ member_text (codes "url") site = c.as_str.ensures.value ∙ c.in_ok-url.ensures in
    let base : c.as_str-2.result.now ≡ member_text (codes "baseurl") site = c.as_str-2.ensures.value ∙ c.in_ok-base.ensures in
    subst (λ b. Gives tree_of c.absolute_url.result (Ok (absolute_url (member_text (codes "url") site) b input))) base
    (subst (λ u. Gives tree_of c.absolute_url.result (Ok (absolute_url u c.as_str-2.result.now input))) url c.absolute_url.ensures)
