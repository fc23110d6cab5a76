use Rattle.liquid_parser.proofs.chain.fast_path.fast_expression.Goals as goal

pub returns-in-Some-clause-value : goal.returns-in-Some-clause-value
returns-in-Some-clause-value g c source = c.fast_from_chain.ensures.value source c.args.s.now c.in-Some.ensures.opens
