-- The tags with `leak` are not discreet.
use Rattle.std.specs.Prelude.{ℕ}
use Rattle.liquid_plugins.specs.meaning.Discreet.{Discreet}
use Rattle.test_plugins.specs.meaning.Tags.{leaky_tag_nodes}
use Rattle.test_plugins.specs.declared.tags.LeakyTagShape.{LeakyTagShape}

abbrev pub LeakIsNotDiscreet : Type 0 → Type 0
LeakIsNotDiscreet Reg = Discreet {N = LeakyTagShape} {P = ℕ} {Reg = Reg} leaky_tag_nodes → ⊥
