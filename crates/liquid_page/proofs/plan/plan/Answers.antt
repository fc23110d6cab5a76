use Rattle.std.proofs.Common.{rules, ◌≡◌, ◌∙◌, ℕ, List, Bool, Option, Some, None, map, true}
use Rattle.std.specs.Prelude.{flat_map}
use Rattle.liquid_files.specs.meaning.Files.{listed_in}
use Rattle.page_site.specs.meaning.Items.{item_of, items_at}
use Rattle.liquid_page.specs.meaning.Command.{output_folder}
use Rattle.liquid_page.specs.meaning.Names.{path_named, text_given}
use Rattle.liquid_page.proofs.NameLemmas.{planned, sent}
use Rattle.liquid_page.proofs.plan.plan.Goals as goal

pub returns-in-Some-clause-items : goal.returns-in-Some-clause-items
returns-in-Some-clause-items g c = λ folders listed.
    let words = map (λ word. word.now) c.args.words.now in
    let folder : c.as_str.result.now ≡ output_folder (text_given c.args.output) = search rules in
    let all = c.add_all.ensures.items folders listed in
    let added : map item_of c.add_all.new.items.items
    ≡ flat_map (λ word. items_at c.as_str.result.now (path_named word) (folders true (path_named word))) words =
    search rules in
    let output : text_given c.args.output ≡ Some c.in-Some.output.now = search rules in
    sent c.send_to.result (λ (v : _). map item_of v.items) folders (text_given c.args.output) c.in-Some.output.now c.as_str.result.now words
    (map item_of c.add_all.new.items.items) folder added output (search rules)

pub returns-clause-items : goal.returns-clause-items
returns-clause-items g c = λ folders listed.
    let words = map (λ word. word.now) c.args.words.now in
    let folder : c.as_str.result.now ≡ output_folder (text_given c.args.output) = search rules in
    let all = c.add_all.ensures.items folders listed in
    let added : map item_of c.add_all.new.items.items
    ≡ flat_map (λ word. items_at c.as_str.result.now (path_named word) (folders true (path_named word))) words =
    search rules in
    let output : text_given c.args.output ≡ None = search rules in
    planned folders (text_given c.args.output) c.as_str.result.now words (map item_of c.add_all.new.items.items) folder added output
