use Rattle.liquid_grammar.proofs.TextLemmas.{IsCharBoundary-before_rest}
use Rattle.liquid_grammar.proofs.text.before.Goals as goal

pub range-requires-clause-end_boundary : goal.range-requires-clause-end_boundary
range-requires-clause-end_boundary c = IsCharBoundary-before_rest c.args.s.now c.args.rest.now c.utf8.rest c.requires.ends
