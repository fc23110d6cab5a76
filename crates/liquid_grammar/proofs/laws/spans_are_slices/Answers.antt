use Rattle.liquid_grammar.proofs.SpanLemmas.{slices}
use Rattle.liquid_grammar.proofs.SpansOfRules.{spans-expression, spans-tag}
use Rattle.liquid_grammar.proofs.laws.spans_are_slices.Goals as goal

pub returns-clause-expressions : goal.returns-clause-expressions
returns-clause-expressions c rest chain m = slices spans-expression c.args.text.now rest chain c.utf8.text m

pub returns-clause-tags : goal.returns-clause-tags
returns-clause-tags c rest tag m = slices spans-tag c.args.text.now rest tag c.utf8.text m
