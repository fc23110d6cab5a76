use Rattle.liquid_value.specs.meaning.View.{view as tree_of}
use Rattle.liquid_jekyll.proofs.ItemLemmas.{first_cut, last_cut}
use Rattle.liquid_jekyll.proofs.value.lists.drop_at_end.Goals as goal

pub returns-in-First : goal.returns-in-First
returns-in-First c = rw c.in-First.is (first_cut tree_of c.args.items.now c.args.count)

pub returns-in-Last : goal.returns-in-Last
returns-in-Last c = rw c.in-Last.is (last_cut tree_of c.args.items.now c.args.count)
