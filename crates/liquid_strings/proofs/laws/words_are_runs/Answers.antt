use Rattle.liquid_strings.proofs.WordLemmas.{is_one_word, space_parts_words}
use Rattle.liquid_strings.proofs.laws.words_are_runs.Goals as goal

pub returns-clause-parts : goal.returns-clause-parts
returns-clause-parts c = space_parts_words c.args.front.now c.args.back.now c.args.space c.utf8.front c.utf8.back

pub returns-clause-one : goal.returns-clause-one
returns-clause-one c = is_one_word c.args.front.now c.utf8.front
