use Rattle.jekyll_source.proofs.UntouchedLemmas.{untouched}
use Rattle.jekyll_source.proofs.laws.texts_without_names_are_untouched.Goals as goal

pub returns : goal.returns
returns c = untouched c.args.text.now
