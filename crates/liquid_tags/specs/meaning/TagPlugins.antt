-- What the tags make from their tokens.
use Rattle.std.specs.Prelude.{ℕ, List, codes, Result, Ok}
use Rattle.liquid_error.specs.meaning.Refusal.{Refusal, ok_then}
use Rattle.liquid_runtime.specs.declared.registers.Interrupt.TheVariants.{Break, Continue}
use Rattle.liquid_parser.specs.meaning.Cursors.{expect_filter_chain, expect_str}
use Rattle.liquid_parser.specs.meaning.Handed.{Tokens, expect_identifier}
use Rattle.liquid_parser.specs.meaning.Lang.{Filters}
use Rattle.liquid_tags.specs.meaning.Asked.{alone, next_as}
use Rattle.liquid_tags.specs.meaning.CallsGiven.{call_given}
use Rattle.liquid_tags.specs.declared.partial_call.call.Inclusion.{Inclusion}
use Rattle.liquid_tags.specs.declared.partial_call.call.Inclusion.TheVariants as inclusion
use Rattle.liquid_tags.specs.declared.tags.TagShape.{TagShape}
use Rattle.liquid_tags.specs.declared.tags.TagShape.TheVariants.{Assign, Increment, Interrupts, Includes}
use Rattle.liquid_tags.specs.declared.tag_plugins.Tags.{Tags}
use Rattle.liquid_tags.specs.declared.tag_plugins.Tags.TheVariants as tags

-- `assign` takes a name, `=` and a chain
abbrev pub assign_given : {F : Type 0} → Filters F → Tokens → Result (TagShape F) Refusal
assign_given filters ts =
    ok_then (next_as expect_identifier ts) (λ name. ok_then (next_as (expect_str (codes "=")) name.1) (λ sign.
    ok_then (next_as (expect_filter_chain filters) sign.1) (λ chain. alone (Assign name.0 chain.0) chain.1)))

-- `increment` takes a name
abbrev pub increment_given : {F : Type 0} → Tokens → Result (TagShape F) Refusal
increment_given ts = ok_then (next_as expect_identifier ts) (λ name. alone (Increment name.0) name.1)

-- `include` and `render` take a value and pairs
abbrev pub inclusion_given : {F : Type 0} → Inclusion → Tokens → Result (TagShape F) Refusal
inclusion_given i ts = ok_then (call_given ts) (λ call. Ok (Includes i call.0 call.1))

-- what a tag's tokens make
abbrev pub tag_given : {F : Type 0} → Tags → Filters F → Tokens → Result (TagShape F) Refusal
tag_given tags.Assign filters ts = assign_given filters ts
tag_given tags.Increment filters ts = increment_given ts
tag_given tags.Break filters ts = alone (Interrupts Break) ts
tag_given tags.Continue filters ts = alone (Interrupts Continue) ts
tag_given tags.Include filters ts = inclusion_given inclusion.Include ts
tag_given tags.Render filters ts = inclusion_given inclusion.Render ts

-- the names of the tags
abbrev pub tag_name : Tags → List ℕ
tag_name tags.Assign = codes "assign"
tag_name tags.Increment = codes "increment"
tag_name tags.Break = codes "break"
tag_name tags.Continue = codes "continue"
tag_name tags.Include = codes "include"
tag_name tags.Render = codes "render"
