use Rattle.std.proofs.Common.{◌≡◌, ◌∙◌, None, ap, map, option_map, refl, rules, string_bytes, sym}
use Rattle.liquid_program.specs.meaning.PagesCommand.{asked_pages}
use Rattle.liquid_program.proofs.RequestsLemmas.{no_words_followed, pages_words_followed}
use Rattle.liquid_program.proofs.run.run_others.Goals as goal

pub returns-in-Some-clause-requests : goal.returns-in-Some-clause-requests
returns-in-Some-clause-requests g c =
    pages_words_followed (map string_bytes c.args.words.now) (asked_pages c.in-Some.pages) (g.F.Folder.known c.args.files.now)
    (g.F.Folder.listed c.args.files.now) (g.F.Folder.requests c.args.files.now)
    (g.F.Folder.requests c.write_pages.new.files) c.write_pages.result
    (sym c.from_words.ensures ∙ ap (λ o. option_map asked_pages o) c.in-Some.is) c.write_pages.ensures.requests

pub returns-in-None-clause-requests : goal.returns-in-None-clause-requests
returns-in-None-clause-requests g c =
    let none : c.from_words.result ≡ None = search rules in
    no_words_followed (map string_bytes c.args.words.now) (g.F.Folder.known c.args.files.now) (g.F.Folder.listed c.args.files.now)
    (g.F.Folder.requests c.args.files.now) (g.F.Folder.requests c.args.files.now) c.say_usage.result
    (sym c.from_words.ensures ∙ ap (λ o. option_map asked_pages o) none) refl
