-- What the tag of a post writes, and the URL of the feed.
use Rattle.std.proofs.Common.{◌≡◌, ℕ, Bool, List, codes, Option, ap, ◌∙◌}
use Rattle.liquid_value.specs.meaning.Tree.{Tree}
use Rattle.jekyll_tags.specs.declared.links.JekyllLinks.TheVariants.{PostUrl}
use Rattle.jekyll_tags.specs.meaning.Files.{is_post, post_url}
use Rattle.liquid_jekyll.specs.meaning.url.Sites.{absolute_url}
use Rattle.jekyll_tags.specs.meaning.Links.{feed_path, feed_url, site_turn, written}
use Rattle.jekyll_tags.specs.meaning.Seen.{member, member_text}

pub post_turn : (name : List ℕ) (site : Tree) (wanted : List ℕ → Bool) (url : Option (List ℕ)) → wanted ≡ is_post name
    → url ≡ post_url wanted site → written (codes "No such post") name url site ≡ site_turn PostUrl name site
post_turn name site wanted url same found =
    ap (λ u. written (codes "No such post") name u site) (found ∙ ap (λ fits. post_url fits site) same)

pub feed_at : (site : Tree) (own base path : List ℕ) → own ≡ member_text (codes "url") site → base ≡ member_text (codes "baseurl") site
    → path ≡ feed_path (member (codes "feed") site) → absolute_url own base path ≡ feed_url site
feed_at site own base path is_own is_base is_path =
    ap (λ o. absolute_url o base path) is_own ∙ (ap (λ b. absolute_url (member_text (codes "url") site) b path) is_base
    ∙ ap (λ p. absolute_url (member_text (codes "url") site) (member_text (codes "baseurl") site) p) is_path)
