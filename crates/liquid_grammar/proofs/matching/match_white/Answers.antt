use Rattle.std.proofs.Common.{sym}
use Rattle.liquid_grammar.proofs.GrammarExact.{exact-white}
use Rattle.liquid_grammar.proofs.matching.match_white.Goals as goal

pub returns-clause-value : goal.returns-clause-value
returns-clause-value c = exact-white.sound c.args.s.now _ _ (sym c.split_white.ensures.value)
