use Rattle.std.proofs.Common.{rules, ◌≡◌, Some, codes, map}
use Rattle.liquid_value.specs.meaning.View.{items_view, view}
use Rattle.jekyll_tags.specs.meaning.Files.{files_in}
use Rattle.liquid_tags.specs.meaning.Series.{trees}
use Rattle.liquid_tags.proofs.SeriesLemmas.{trees_of}
use Rattle.jekyll_tags.proofs.files.file_url.Goals as goal

pub returns-in-Some : goal.returns-in-Some
returns-in-Some c =
    let found : files_in c.args.list.now (view c.args.site.now) ≡ Some (items_view c.in-Some.files.now.items) = search rules in
    let items : trees (items_view c.in-Some.files.now.items) ≡ map view c.in-Some.files.now.items =
    trees_of (map view c.in-Some.files.now.items) in
    rw (found, items) (search rules)
