-- What the test tags make from their tokens.
use Rattle.std.specs.Prelude.{ℕ, List, codes, Result, Ok}
use Rattle.liquid_error.specs.meaning.Refusal.{Refusal, ok_then}
use Rattle.liquid_parser.specs.meaning.Handed.{Tokens}
use Rattle.test_plugins.specs.meaning.Asked.{name_alone, name_and_value, nothing_for}
use Rattle.test_plugins.specs.declared.tag_plugins.Tags.{Tags}
use Rattle.test_plugins.specs.declared.tag_plugins.Tags.TheVariants as tags
use Rattle.test_plugins.specs.declared.tag_plugins.LeakyTags.{LeakyTags}
use Rattle.test_plugins.specs.declared.tag_plugins.LeakyTags.TheVariants as leaky
use Rattle.test_plugins.specs.declared.tag_plugins.HostileTags.{HostileTags}
use Rattle.test_plugins.specs.declared.tag_plugins.HostileTags.TheVariants as hostile
use Rattle.test_plugins.specs.declared.tags.TagShape.{TagShape}
use Rattle.test_plugins.specs.declared.tags.TagShape.TheVariants as shape
use Rattle.test_plugins.specs.declared.tags.LeakyTagShape.{LeakyTagShape}
use Rattle.test_plugins.specs.declared.tags.LeakyTagShape.TheVariants as leaky_shape
use Rattle.test_plugins.specs.declared.hostile.HostileTagShape.{HostileTagShape}
use Rattle.test_plugins.specs.declared.hostile.HostileTagShape.TheVariants as hostile_shape

-- `set` takes a name and a value, `inc` a name, and `brk` nothing
abbrev pub tag_given : Tags → Tokens → Result TagShape Refusal
tag_given tags.Set ts = ok_then (name_and_value ts) (λ given. Ok (shape.Set given.0 given.1))
tag_given tags.Inc ts = ok_then (name_alone ts) (λ name. Ok (shape.Inc name))
tag_given tags.Brk ts = nothing_for shape.Brk ts

-- `leak` takes a name and a value
abbrev pub leaky_given : LeakyTags → Tokens → Result LeakyTagShape Refusal
leaky_given (leaky.Plain t) ts = ok_then (tag_given t ts) (λ n. Ok (leaky_shape.Plain n))
leaky_given leaky.Leak ts = ok_then (name_and_value ts) (λ given. Ok (leaky_shape.Leak given.0 given.1))

-- `spin` and `mute` take nothing
abbrev pub hostile_given : HostileTags → Tokens → Result HostileTagShape Refusal
hostile_given (hostile.Plain t) ts = ok_then (tag_given t ts) (λ n. Ok (hostile_shape.Plain n))
hostile_given hostile.Spin ts = nothing_for hostile_shape.Spin ts
hostile_given hostile.Mute ts = nothing_for hostile_shape.Mute ts

-- the names of the tags
abbrev pub tag_name : Tags → List ℕ
tag_name tags.Set = codes "set"
tag_name tags.Inc = codes "inc"
tag_name tags.Brk = codes "brk"

abbrev pub leaky_name : LeakyTags → List ℕ
leaky_name (leaky.Plain t) = tag_name t
leaky_name leaky.Leak = codes "leak"

abbrev pub hostile_name : HostileTags → List ℕ
hostile_name (hostile.Plain t) = tag_name t
hostile_name hostile.Spin = codes "spin"
hostile_name hostile.Mute = codes "mute"
