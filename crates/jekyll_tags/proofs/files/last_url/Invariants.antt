use Rattle.std.proofs.Common.{◌≡◌, drop, map, option_map}
use Rattle.std.specs.Option.{option_or}
use Rattle.liquid_value.specs.meaning.View.{view as tree_of}
use Rattle.jekyll_tags.specs.meaning.Files.{fits, last_url}
use Rattle.jekyll_tags.proofs.files.last_url.Given as goal

abbrev pub invariant-loop-file : goal.invariant-loop-file
invariant-loop-file l =
    last_url (fits l.wanted) (map tree_of l.files)
    ≡ option_or (last_url (fits l.wanted) (map tree_of (drop l.file-index l.files))) (option_map (λ url. url.now) l.found)
