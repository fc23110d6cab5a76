use Rattle.std.proofs.Common.{sym, ap, option_map}
use Rattle.liquid_grammar.proofs.GrammarExact.{exact-white}
use Rattle.liquid_explain.proofs.values.skip_white.Goals as goal

pub returns-clause-value : goal.returns-clause-value
returns-clause-value c = sym (ap (option_map (λ p. p.1)) (exact-white.complete c.args.s.now _ _ c.match_white.ensures.value))
