use Rattle.liquid_filters.proofs.FirstWords.{first_words}
use Rattle.liquid_filters.proofs.string.laws.first_words_are_kept.Goals as goal

pub returns : goal.returns
returns c = first_words c.args.count c.args.text.now c.utf8.text
