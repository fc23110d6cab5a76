-- What each function of the renderer writes, where this many partials may still be nested.
use Rattle.std.specs.Prelude.{ℕ, [], Option, option_map}
use Rattle.liquid_plugins.specs.meaning.Chain.{FilterMeaning}
use Rattle.liquid_plugins.specs.meaning.Turns.{NodeMeaning}
use Rattle.liquid_plugins.specs.meaning.Nodes.{NodeShape, Parts}
use Rattle.liquid_template.specs.meaning.Run.{Action}
use Rattle.liquid_template.specs.meaning.Actions.{part_at}
use Rattle.liquid_template.specs.meaning.Nodes.{Setting, played, run_node, run_parts}
use Rattle.liquid_template.specs.meaning.Partials.{Found, partial_in, partials_at}

-- a setting, from what the filters, tags and blocks mean, and from what the store finds, if there is one
abbrev pub setting : {Reg F T P B Q : Type 0} → Reg → FilterMeaning F → NodeMeaning T P Reg → NodeMeaning B Q Reg → Option (Found F T B)
    → Setting Reg F T P B Q
setting fresh filters tags blocks finds =
    record { fresh = fresh; filters = filters; tags = tags; blocks = blocks; finds = option_map partial_in finds }

module _ {Reg F T P B Q : Type 0} (s : Setting Reg F T P B Q) (depth : ℕ) where
  abbrev pub node_run : NodeShape F T B → Action Reg
  node_run n = run_node s (partials_at s depth) n

  abbrev pub tag_run : T → Action Reg
  tag_run n = played s (partials_at s depth) s.tags n []

  abbrev pub block_run : B → Parts F T B → Action Reg
  block_run n ps = played s (partials_at s depth) s.blocks n (run_parts s (partials_at s depth) ps)

  abbrev pub part_run : Parts F T B → ℕ → Action Reg
  part_run ps place = part_at (run_parts s (partials_at s depth) ps) place
