use Rattle.jekyll_source.proofs.ParameterLemmas.{cuts_unquoted}
use Rattle.jekyll_source.proofs.parameters.split_at_quote.Goals as goal

pub split_at-requires : goal.split_at-requires
split_at-requires c = rw (c.unquoted_len.ensures.value, c.as_bytes.ensures.value) (cuts_unquoted c.args.text.now)
