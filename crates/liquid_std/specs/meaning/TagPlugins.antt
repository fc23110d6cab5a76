-- What the tags make of their tokens.
use Rattle.std.specs.Prelude.{ℕ, List, codes, Option, None, Some, Result, Ok}
use Rattle.liquid_error.specs.meaning.Refusal.{Refusal, ok_then}
use Rattle.liquid_parser.specs.meaning.Cursors.{expect_filter_chain}
use Rattle.liquid_parser.specs.meaning.Handed.{Tokens, expect_identifier}
use Rattle.liquid_parser.specs.meaning.Lang.{Filters}
use Rattle.liquid_tags.specs.meaning.Asked.{alone, next_as}
use Rattle.liquid_tags.specs.declared.partial_call.call.Inclusion.{Inclusion}
use Rattle.liquid_tags.specs.declared.partial_call.call.Inclusion.TheVariants as inclusion
use Rattle.liquid_tags.specs.declared.tag_plugins.Tags.{Tags}
use Rattle.liquid_tags.specs.declared.tag_plugins.Tags.TheVariants as named
use Rattle.liquid_tags.specs.declared.tags.TagShape.TheVariants.{Includes}
use Rattle.liquid_tags.specs.meaning.TagPlugins as library
use Rattle.liquid_std.specs.meaning.inclusion.CallsGiven.{CallRead, alone as without_value, passing, call_given}
use Rattle.liquid_std.specs.meaning.CyclesGiven.{cycle_given}
use Rattle.liquid_std.specs.declared.tags.StdTagShape.{StdTagShape}
use Rattle.liquid_std.specs.declared.tags.StdTagShape.TheVariants.{Library, Decrement, Echo, Cycle, Calls}
use Rattle.liquid_std.specs.declared.tag_plugins.StdTags.{StdTags}
use Rattle.liquid_std.specs.declared.tag_plugins.StdTags.TheVariants as tags

-- `decrement` takes a name
abbrev pub decrement_given : {F : Type 0} → Tokens → Result (StdTagShape F) Refusal
decrement_given ts = ok_then (next_as expect_identifier ts) (λ name. alone (Decrement name.0) name.1)

-- `echo` takes a chain
abbrev pub echo_given : {F : Type 0} → Filters F → Tokens → Result (StdTagShape F) Refusal
echo_given filters ts = ok_then (next_as (expect_filter_chain filters) ts) (λ chain. alone (Echo chain.0) chain.1)

-- `cycle` takes values, and perhaps a name
abbrev pub cycle_node_given : {F : Type 0} → Tokens → Result (StdTagShape F) Refusal
cycle_node_given ts = ok_then (cycle_given ts) (λ c. Ok (Cycle c))

-- `include` and `render` are the tags of `liquid_tags` if they pass no value
abbrev pub call_node : {F : Type 0} → Inclusion → CallRead → StdTagShape F
call_node i (without_value c) = Library (Includes i c.0 c.1)
call_node i (passing c) = Calls c

abbrev pub call_node_given : {F : Type 0} → Inclusion → Tokens → Result (StdTagShape F) Refusal
call_node_given i ts = ok_then (call_given i ts) (λ c. Ok (call_node i c))

-- how a tag of `liquid_tags` calls a partial, if it does
abbrev pub inclusion_of : Tags → Option Inclusion
inclusion_of named.Include = Some inclusion.Include
inclusion_of named.Render = Some inclusion.Render
inclusion_of t = None

-- what the tokens of a tag of `liquid_tags` make
abbrev pub library_by : {F : Type 0} → Tags → Filters F → Tokens → Option Inclusion → Result (StdTagShape F) Refusal
library_by t filters ts None = ok_then (library.tag_given t filters ts) (λ n. Ok (Library n))
library_by t filters ts (Some i) = call_node_given i ts

abbrev pub library_given : {F : Type 0} → Tags → Filters F → Tokens → Result (StdTagShape F) Refusal
library_given t filters ts = library_by t filters ts (inclusion_of t)

-- what a tag's tokens make
abbrev pub tag_given : {F : Type 0} → StdTags → Filters F → Tokens → Result (StdTagShape F) Refusal
tag_given (tags.Library t) filters ts = library_given t filters ts
tag_given tags.Decrement filters ts = decrement_given ts
tag_given tags.Echo filters ts = echo_given filters ts
tag_given tags.Cycle filters ts = cycle_node_given ts

-- the names of the tags
abbrev pub tag_name : StdTags → List ℕ
tag_name (tags.Library t) = library.tag_name t
tag_name tags.Decrement = codes "decrement"
tag_name tags.Echo = codes "echo"
tag_name tags.Cycle = codes "cycle"
