use Rattle.std.proofs.Common.{◌+◌, ap, arith, drop, sym}
use Rattle.std.proofs.lemmas.List.{length-drop}
use Rattle.liquid_strings.proofs.HtmlLemmas.{to_end}
use Rattle.jekyll_source.proofs.PlainLemmas.{brace_found, has_bytes, no_brace}
use Rattle.jekyll_source.proofs.pieces.plain_len.Goals as goal

pub returns-in-Some-clause-value : goal.returns-in-Some-clause-value
returns-in-Some-clause-value c =
    ap (λ n. 1 + n) (sym (brace_found (drop 1 c.args.text.now) c.in-Some.at (rw (to_end c.args.text.now 1) at c.in-Some.ensures)))

pub returns-in-None-clause-value : goal.returns-in-None-clause-value
returns-in-None-clause-value c =
    let text = c.args.text.now in
    omega (arith, no_brace (drop 1 text) (rw (to_end text 1) at c.in-None.ensures), length-drop 1 text, has_bytes text c.requires)
