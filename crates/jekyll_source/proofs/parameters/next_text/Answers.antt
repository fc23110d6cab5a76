use Rattle.jekyll_source.specs.steps.Parts.{quote_byte}
use Rattle.jekyll_source.proofs.ParameterLemmas.{first_text, no_end, no_quote}
use Rattle.jekyll_source.proofs.parameters.next_text.Goals as goal

pub returns-in_err-quote-clause-value : goal.returns-in_err-quote-clause-value
returns-in_err-quote-clause-value c =
    rw c.from_residual.ensures (no_quote c.args.parameters.now _ _ c.split_at_quote.ensures c.in_err-quote.ensures.none)

pub returns-in_err-text-clause-value : goal.returns-in_err-text-clause-value
returns-in_err-text-clause-value c =
    rw c.from_residual-in_err-text.ensures
    (no_end c.args.parameters.now _ _ c.split_at_quote.ensures (quote_byte c.in_ok-quote.quote) c.in_ok-quote.after.now
    c.in_ok-quote.ensures.found c.in_err-text.ensures.value)

pub returns-clause-value : goal.returns-clause-value
returns-clause-value c =
    first_text c.args.parameters.now _ _ c.split_at_quote.ensures (quote_byte c.in_ok-quote.quote) c.in_ok-quote.after.now
    c.in_ok-quote.ensures.found c.in_ok-text.text.now c.in_ok-text.rest.now c.in_ok-text.ensures.value
