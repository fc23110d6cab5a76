-- What tags that write a URL render.
use Rattle.std.specs.Prelude.{ℕ, Bool, List, [], ◌∷◌, ◌++◌, codes, map, Option, None, Some, Result, Ok, Err}
use Rattle.std.specs.Option.{option_map_or, option_or, unwrap_or}
use Rattle.liquid_error.specs.meaning.Refusal.{Refusal, ok_then, plain, with_context}
use Rattle.liquid_scalar.specs.meaning.Scalar.{text}
use Rattle.liquid_value.specs.meaning.Tree.{Tree, nil}
use Rattle.liquid_runtime.specs.meaning.Lookup.{try_path}
use Rattle.liquid_runtime.specs.meaning.View.{View}
use Rattle.liquid_plugins.specs.meaning.Chain.{FilterMeaning}
use Rattle.liquid_plugins.specs.meaning.ExpressionOf.{chain_of}
use Rattle.liquid_plugins.specs.meaning.Turning.{answers, begins_with, captures_nothing}
use Rattle.liquid_plugins.specs.meaning.Turns.{TurnShape, text_turn, NodeMeaning}
use Rattle.liquid_jekyll.specs.meaning.text.Escape.{xml_escaped}
use Rattle.liquid_jekyll.specs.meaning.url.Sites.{absolute_url, relative_url}
use Rattle.jekyll_tags.specs.declared.links.JekyllLink.{JekyllLink}
use Rattle.jekyll_tags.specs.declared.links.JekyllLinkShape.{JekyllLinkShape}
use Rattle.jekyll_tags.specs.declared.links.JekyllLinks.{JekyllLinks}
use Rattle.jekyll_tags.specs.declared.links.JekyllLinks.TheVariants.{Link, PostUrl, FeedMeta}
use Rattle.jekyll_tags.specs.meaning.Files.{file_url, is_file, is_post, post_url}
use Rattle.jekyll_tags.specs.meaning.Inclusions.{joined_texts}
use Rattle.jekyll_tags.specs.meaning.Seen.{given_text, member, member_text}

abbrev pub link_name : JekyllLinks → List ℕ
link_name Link = codes "link"
link_name PostUrl = codes "post_url"
link_name FeedMeta = codes "feed_meta"

-- the shape of a tag that writes a URL
abbrev pub link_of : {X F : Type 0} → (X → F) → JekyllLink X → JekyllLinkShape F
link_of shape l = record { tag = l.tag; name = map (chain_of shape) l.name.items }

-- the refusal of a name that no file has
abbrev pub not_found : List ℕ → List ℕ → Refusal
not_found message name = with_context (codes "name") name (plain message)

-- a URL as a path of the site, if there is one
abbrev pub written : List ℕ → List ℕ → Option (List ℕ) → Tree → Result TurnShape Refusal
written message name None site = Err (not_found message name)
written message name (Some url) site = Ok (text_turn (relative_url (member_text (codes "baseurl") site) url))

-- the URL of a file whose path fits: of a page, a document or a static file
abbrev pub link_url : (List ℕ → Bool) → Tree → Option (List ℕ)
link_url fits site =
    option_or (file_url fits (codes "pages") site)
    (option_or (file_url fits (codes "documents") site) (file_url fits (codes "static_files") site))

-- the path of the feed, by what the site says of it
abbrev pub path_in : Tree → List ℕ
path_in feed = unwrap_or (given_text (codes "path") feed) (codes "feed.xml")

abbrev pub feed_path : Option Tree → List ℕ
feed_path feed = option_map_or path_in feed (codes "feed.xml")

-- the title of the site, or else its name
abbrev pub site_title : Tree → Option (List ℕ)
site_title site = option_or (given_text (codes "title") site) (given_text (codes "name") site)

-- the attribute with a title, if there is one
abbrev pub title_attribute : Option (List ℕ) → List ℕ
title_attribute None = []
title_attribute (Some title) = codes " title=\"" ++ (xml_escaped title ++ codes "\"")

-- the URL of the site's feed
abbrev pub feed_url : Tree → List ℕ
feed_url site = absolute_url (member_text (codes "url") site) (member_text (codes "baseurl") site) (feed_path (member (codes "feed") site))

-- the element of HTML that names it
abbrev pub feed_element : Tree → List ℕ
feed_element site =
    codes "<link type=\"application/atom+xml\" rel=\"alternate\" href=\"" ++ (xml_escaped (feed_url site)
    ++ (codes "\"" ++ (title_attribute (site_title site) ++ codes " />")))

-- what a tag with this name writes for a site
abbrev pub site_turn : JekyllLinks → List ℕ → Tree → Result TurnShape Refusal
site_turn Link name site = written (codes "No such file") name (link_url (is_file name) site) site
site_turn PostUrl name site = written (codes "No such post") name (post_url (is_post name) site) site
site_turn FeedMeta name site = Ok (text_turn (feed_element site))

-- the site; nil without one
abbrev pub site_seen : {Reg : Type 0} → View Reg → Tree
site_seen v = unwrap_or (try_path v (text (codes "site") ∷ [])) nil

module _ {F Reg : Type 0} (m : FilterMeaning F) where
  -- the name is evaluated first
  abbrev pub link_turn : JekyllLinkShape F → View Reg → Result TurnShape Refusal
  link_turn l v = ok_then (joined_texts m v l.name) (λ name. site_turn l.tag name (site_seen v))

  -- each takes one turn, and changes nothing
  abbrev pub link_nodes : NodeMeaning (JekyllLinkShape F) ℕ Reg
  link_nodes = record {
    starts = λ l. begins_with 1;
    count = λ turns. turns;
    takes = λ l progress v. answers (link_turn l v) progress v;
    catches = captures_nothing;
  }
