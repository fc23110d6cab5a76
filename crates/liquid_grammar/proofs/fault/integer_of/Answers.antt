use Rattle.std.proofs.Common.{sym, ◌∙◌}
use Rattle.liquid_grammar.proofs.IntegerLemmas.{integer_from_parse}
use Rattle.liquid_grammar.proofs.fault.integer_of.Goals as goal

pub returns : goal.returns
returns c = c.ok.ensures.value ∙ sym (integer_from_parse c.args.text.now _ c.parse.ensures.value.0)
