-- What tags that write a URL make of their tokens.
use Rattle.std.specs.Prelude.{List, [], Result, Ok}
use Rattle.liquid_error.specs.meaning.Refusal.{Refusal, ok_then}
use Rattle.liquid_parser.specs.meaning.Handed.{Tokens}
use Rattle.liquid_parser.specs.meaning.Lang.{Filters}
use Rattle.liquid_plugins.specs.meaning.Chain.{ChainShape}
use Rattle.liquid_tags.specs.meaning.Asked.{alone}
use Rattle.jekyll_tags.specs.declared.links.JekyllLinks.{JekyllLinks}
use Rattle.jekyll_tags.specs.declared.links.JekyllLinks.TheVariants.{Link, PostUrl, FeedMeta}
use Rattle.jekyll_tags.specs.declared.links.JekyllLinkShape.{JekyllLinkShape}
use Rattle.jekyll_tags.specs.meaning.Given.{parts_given}

-- the name, and the tokens after it; `feed_meta` has none
abbrev pub named_given : {F : Type 0} → JekyllLinks → Filters F → Tokens → Result (List (ChainShape F) × Tokens) Refusal
named_given Link filters ts = parts_given filters ts
named_given PostUrl filters ts = parts_given filters ts
named_given FeedMeta filters ts = Ok ([], ts)

-- a name alone
abbrev pub link_given : {F : Type 0} → JekyllLinks → Filters F → Tokens → Result (JekyllLinkShape F) Refusal
link_given tag filters ts = ok_then (named_given tag filters ts) (λ n. alone (record { tag = tag; name = n.0 }) n.1)
