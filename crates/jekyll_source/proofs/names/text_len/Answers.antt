use Rattle.liquid_strings.proofs.HtmlLemmas.{to_end}
use Rattle.jekyll_source.proofs.NamePartLemmas.{brace_there, no_open, open_found}
use Rattle.jekyll_source.proofs.PlainLemmas.{has_bytes}
use Rattle.jekyll_source.proofs.names.text_len.Goals as goal

pub returns-in-Some-clause-value : goal.returns-in-Some-clause-value
returns-in-Some-clause-value c = open_found c.args.name.now c.in-Some.at (rw (to_end c.args.name.now 1) at c.in-Some.ensures)

pub returns-in-Some-clause-stops : goal.returns-in-Some-clause-stops
returns-in-Some-clause-stops c = λ _. brace_there c.args.name.now c.in-Some.at (rw (to_end c.args.name.now 1) at c.in-Some.ensures)

pub returns-in-None-clause-value : goal.returns-in-None-clause-value
returns-in-None-clause-value c =
    no_open c.args.name.now (has_bytes c.args.name.now c.requires) (rw (to_end c.args.name.now 1) at c.in-None.ensures)
