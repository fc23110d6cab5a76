use Rattle.std.proofs.Common.{◌≡◌, drop, map}
use Rattle.liquid_value.specs.meaning.View.{view as tree_of}
use Rattle.jekyll_tags.specs.meaning.Files.{first_url, fits}
use Rattle.jekyll_tags.proofs.files.first_url.Given as goal

abbrev pub invariant-loop-file : goal.invariant-loop-file
invariant-loop-file l =
    first_url (fits l.wanted) (map tree_of l.files) ≡ first_url (fits l.wanted) (map tree_of (drop l.file-index l.files))
