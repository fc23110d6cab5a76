use Rattle.std.proofs.Common.{rules, ◌≡◌, ◌∙◌, ℕ, List, Option, Some, ap, subst, sym, string_bytes}
use Rattle.std.specs.Option.{unwrap_or}
use Rattle.liquid_files.specs.meaning.Files.{known_in}
use Rattle.liquid_value.specs.meaning.View.{members_view}
use Rattle.page_site.specs.meaning.data_files.Document.{DataGiven}
use Rattle.page_site.specs.meaning.data_files.Merged.{merged}
use Rattle.page_site.specs.meaning.Items.{MayBe}
use Rattle.liquid_page.specs.meaning.Names.{format_at, list_name_at, name_in, name_over, path_in, text_given, under}
use Rattle.liquid_page.proofs.NameLemmas.{given_at, there_in}
use Rattle.liquid_page.proofs.names.read_over.Goals as goal

pub returns-clause-read : goal.returns-clause-read
returns-clause-read g c = λ all known.
    let word = c.args.word.now in
    let path : c.data_word-word.result.path.now ≡ path_in word = c.data_word-word.ensures.path in
    let text = string_bytes c.in_ok-text.text in
    let may : MayBe (g.F.Folder.known c.args.files.now c.data_word-word.result.path.now) text = search rules in
    let format : format_at c.data_word-word.result.path.now ≡ Some c.in-Some.format = search rules in
    let name = text_given c.data_word-word.result.name in
    let named : name ≡ name_in word = c.data_word-word.ensures.name in
    let read : DataGiven c.in-Some.format (unwrap_or name (list_name_at c.data_word-word.result.path.now)) text
    (members_view c.in_ok-given.given.entries) =
    search rules in
    let after : members_view c.in_ok-put_over.field-0.entries
    ≡ merged (members_view c.args.names.entries) (under (name_over c.in-Some.format name) (members_view c.in_ok-given.given.entries)) =
    search rules in
    given_at all (g.F.Folder.known c.args.files.now) word c.data_word-word.result.path.now text c.in-Some.format name
    (members_view c.in_ok-given.given.entries) (members_view c.args.names.entries)
    (members_view c.in_ok-put_over.field-0.entries) known path
    named may format read after
