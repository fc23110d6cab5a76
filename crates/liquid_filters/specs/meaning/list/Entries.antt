-- What an entry means.
use Rattle.liquid_value.specs.meaning.Cow.{cow_view}
use Rattle.liquid_value.specs.meaning.Tree.{Tree}
use Rattle.liquid_value.specs.meaning.View.{view}
use Rattle.liquid_filters.specs.declared.list.keys.Entry.{Entry}

-- the key and the item
abbrev pub entry_view : Entry → Tree × Tree
entry_view e = (cow_view e.key, view e.item.now)
