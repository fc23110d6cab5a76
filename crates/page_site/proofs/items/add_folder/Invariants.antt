use Rattle.std.proofs.Common.{◌≡◌, ◌++◌, map, string_bytes}
use Rattle.page_site.specs.meaning.Items.{item_in, item_of}
use Rattle.page_site.proofs.items.add_folder.Given as goal

abbrev pub invariant-loop-name : goal.invariant-loop-name
invariant-loop-name l =
    map item_of l.items.items ++ map (item_in l.fn.output l.fn.folder) (map string_bytes l.name-iterator.rest.items)
    ≡ map item_of l.fn.items.items ++ map (item_in l.fn.output l.fn.folder) (map string_bytes l.fn.names.items)
