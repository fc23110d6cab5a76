use Rattle.std.proofs.Common.{◌∙◌, ap, refl, None, map, [], ◌∷◌, ◌++◌}
use Rattle.std.specs.Prelude.{option_map, option_to_list}
use Rattle.liquid_runtime.specs.meaning.LoopNames.{loop_names}
use Rattle.liquid_scopes.specs.steps.Layers.{stack_layer}
use Rattle.liquid_scopes.specs.steps.LinkLayers.{layer_of, layer_taken}
use Rattle.liquid_scopes.proofs.LayerLaws.{pops, same_registers}
use Rattle.liquid_scopes.proofs.flat_scopes.FlatScopesScopes.pop_loop.Goals as goal

pub returns-in-Some-Loop-clause-ends : goal.returns-in-Some-Loop-clause-ends
returns-in-Some-Loop-clause-ends g c =
    let v = g.R.Runtime.view c.args.self.now.base in
    let rs = g.R.Runtime.restores c.args.self.now.base in
    let ls = map layer_of c.take.new.self.links.items in
    pops g.R.Register.Fresh.shape v v (map layer_of c.args.self.now.table.links.items) ls
    (stack_layer (loop_names c.in-Some-Loop.frame.value) None) rs rs
    (c.take.ensures.items ∙ ap (λ o. ls ++ option_to_list (option_map layer_taken o)) c.in-Some-Loop.is
    ∙ ap (λ t. ls ++ layer_taken t ∷ []) c.in-Some-Loop.field-0-is)
    refl (same_registers v) refl

pub returns-in-Some-Other-clause-ends : goal.returns-in-Some-Other-clause-ends
returns-in-Some-Other-clause-ends g c =
    let ls = map layer_of c.take.new.self.links.items in
    pops g.R.Register.Fresh.shape (g.R.Runtime.view c.args.self.now.base) (g.R.Runtime.view c.closing.new.base)
    (map layer_of c.args.self.now.table.links.items) ls (layer_of c.in-Some-Other.link)
    (g.R.Runtime.restores c.args.self.now.base) (g.R.Runtime.restores c.closing.new.base)
    (c.take.ensures.items ∙ ap (λ o. ls ++ option_to_list (option_map layer_taken o)) c.in-Some-Other.is
    ∙ ap (λ t. ls ++ layer_taken t ∷ []) c.in-Some-Other.field-0-is)
    c.closing.ensures.registers c.closing.ensures.ends c.closing.ensures.owes
