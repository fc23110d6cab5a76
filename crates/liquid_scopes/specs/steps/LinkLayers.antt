-- The layer that a link means.
use Rattle.std.specs.Prelude.{List, map, option_map, string_bytes, None}
use Rattle.liquid_runtime.specs.meaning.Maps.{names_of}
use Rattle.liquid_runtime.specs.meaning.LoopNames.{loop_names}
use Rattle.liquid_runtime.specs.meaning.View.{View}
use Rattle.liquid_scopes.specs.steps.Layers.{Layer, none_layer, stack_layer, global_layer, sandboxed_layer, isolated_layer, shown_over}
use Rattle.liquid_scopes.specs.declared.link.Link.{Link}
use Rattle.liquid_scopes.specs.declared.link.Link.TheVariants as link
use Rattle.liquid_scopes.specs.declared.link.Taken.{Taken}
use Rattle.liquid_scopes.specs.declared.link.Taken.TheVariants as taken

abbrev pub layer_of : {V : Type 0} → Link V → Layer V
layer_of link.None = none_layer
layer_of (link.Stack d n) = stack_layer (names_of d) (option_map (λ s. string_bytes s) n)
layer_of (link.Loop l) = stack_layer (loop_names l.value) None
layer_of (link.Global g) = global_layer (names_of g)
layer_of (link.Sandboxed d n saved) = sandboxed_layer (names_of d) (option_map (λ s. string_bytes s) n) saved
layer_of (link.Isolated d g n saved) = isolated_layer (names_of d) (names_of g) (option_map (λ s. string_bytes s) n) saved

-- the layer of a frame that is taken away
abbrev pub layer_taken : {V : Type 0} → Taken V → Layer V
layer_taken (taken.Loop l) = stack_layer (loop_names l.value) None
layer_taken (taken.Other link) = layer_of link

-- the layers that links mean
abbrev pub layers_of : {V : Type 0} → List (Link V) → List (Layer V)
layers_of links = map layer_of links

-- the view of links over this view
abbrev pub view_over : {V Reg : Type 0} → View Reg → List (Link V) → View Reg
view_over v links = shown_over v (layers_of links)
