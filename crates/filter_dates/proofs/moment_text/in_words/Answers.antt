use Rattle.filter_dates.proofs.WordLemmas.{too_few}
use Rattle.filter_dates.proofs.moment_text.in_words.Goals as goal

pub returns-in_default : goal.returns-in_default
returns-in_default c = too_few c.args.words.now c.in_default.len_below
