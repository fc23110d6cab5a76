use Rattle.std.proofs.Common.{refl, sym, subst}
use Rattle.liquid_grammar.proofs.ChainStepLemmas.{valueless, endless, opens_invalid}
use Rattle.liquid_plugins.specs.meaning.ExpressionOf.{chain_of}
use Rattle.liquid_parser.specs.meaning.Plugins.{registry_of}
use Rattle.liquid_parser.specs.steps.Built.{MakesNode}
use Rattle.liquid_parser.proofs.FastPathLemmas.{headed, chain_makes, name_makes}
use Rattle.liquid_parser.proofs.StepLemmas.{chain_shape}
use Rattle.liquid_parser.proofs.chain.fast_path.fast_from_chain.Goals as goal

pub returns-in-None-clause-value : goal.returns-in-None-clause-value
returns-in-None-clause-value g c source s opens =
    opens_invalid s c.args.start.now opens (valueless s c.args.start.now opens c.in-None.ensures.found)

pub returns-in-Some-expression_end-clause-value : goal.returns-in-Some-expression_end-clause-value
returns-in-Some-expression_end-clause-value g c source s opens =
    subst (λ n. MakesNode (registry_of g.F.ParseFilter.makes c.args.language.now.filters) source s c.in-Some-expression_end.rest.now n)
    (sym c.in_ok-node.ensures)
    (name_makes (registry_of g.F.ParseFilter.makes c.args.language.now.filters) source s c.args.start.now c.in-Some.begun.1.now
    c.in-Some-expression_end.rest.now c.in-Name.name
    opens (rw c.in-Name.is at c.in-Some.ensures.found) c.in-Some-expression_end.ensures.closes)

pub returns-in-Whole-clause-value : goal.returns-in-Whole-clause-value
returns-in-Whole-clause-value g c source s opens =
    let has = headed c.args.start.now c.in-Some.begun.1.now c.in-Some.begun.0 c.in-Some.ensures.found in
    let made = rw c.in-Whole.is at c.in_ok-chain.ensures.value source c.args.start.now has.middle has.end has.chain has.begun has.filters in
    subst (λ n. MakesNode (registry_of g.F.ParseFilter.makes c.args.language.now.filters) source s c.in-Whole.rest.now n)
    (sym (chain_shape g.F.Filter.Meant.shape g.T.Node.Meant.shape g.B.Node.Meant.shape c.left_of-in-Whole.result c.in-Whole.chain))
    (chain_makes (registry_of g.F.ParseFilter.makes c.args.language.now.filters) source s c.args.start.now c.in-Some.begun.1.now has.end
    c.in-Whole.rest.now c.in-Some.begun.0 (chain_of g.F.Filter.Meant.shape c.in-Whole.chain)
    has opens (made.0, made.1, refl) made.2)

pub returns-in-NoExpression-clause-value : goal.returns-in-NoExpression-clause-value
returns-in-NoExpression-clause-value g c source s opens =
    let has = headed c.args.start.now c.in-Some.begun.1.now c.in-Some.begun.0 c.in-Some.ensures.found in
    let none =
    rw c.in-NoExpression.is at c.in_ok-chain.ensures.value source c.args.start.now has.middle has.end has.chain has.begun has.filters in
    opens_invalid s c.args.start.now opens (endless s c.args.start.now has.end has.chain opens has.match none)
