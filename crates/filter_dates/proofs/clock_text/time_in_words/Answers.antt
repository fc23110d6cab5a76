use Rattle.filter_dates.proofs.WordLemmas.{too_many}
use Rattle.filter_dates.proofs.clock_text.time_in_words.Goals as goal

pub returns-in_default : goal.returns-in_default
returns-in_default c = too_many c.args.words.now c.in_default.len_at_least
