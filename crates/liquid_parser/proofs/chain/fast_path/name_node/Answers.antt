use Rattle.std.proofs.Common.{◌≡◌, ◌++◌, ap, ◌∙◌}
use Rattle.liquid_plugins.specs.meaning.NodesOf.{name_chain}
use Rattle.liquid_plugins.specs.meaning.Nodes.{chain_node}
use Rattle.liquid_parser.proofs.StepLemmas.{chain_shape, name_shape}
use Rattle.liquid_parser.proofs.chain.fast_path.name_node.Goals as goal

pub returns-then-name-gt-BRIEF_LIMIT : goal.returns-then-name-gt-BRIEF_LIMIT
returns-then-name-gt-BRIEF_LIMIT g c =
    chain_shape g.F.Filter.Meant.shape g.T.Node.Meant.shape g.B.Node.Meant.shape c.args.left c.in_ok-of_name.field-0
    ∙ ap (λ made. chain_node made) c.in_ok-of_name.ensures

pub returns : goal.returns
returns g c =
    let e : c.push_str.new.self.bytes ≡ c.args.name.now =
    c.push_str.ensures.bytes ∙ ap (λ bytes. bytes ++ c.args.name.now) c.new-brief.ensures in
    name_shape g.F.Filter.Meant.shape g.T.Node.Meant.shape g.B.Node.Meant.shape c.args.left c.push_str.new.self
    ∙ ap (λ bytes. chain_node (name_chain bytes)) e
