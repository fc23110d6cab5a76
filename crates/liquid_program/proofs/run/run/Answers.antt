use Rattle.std.proofs.Common.{◌≡◌, ◌∙◌, None, ap, map, option_map, rules, string_bytes, sym}
use Rattle.liquid_program.specs.meaning.Command.{asked_of}
use Rattle.liquid_program.proofs.RequestsLemmas.{others_followed, words_followed}
use Rattle.liquid_program.proofs.run.run.Goals as goal

pub returns-in-Some-clause-requests : goal.returns-in-Some-clause-requests
returns-in-Some-clause-requests g c =
    words_followed (map string_bytes c.args.words.now) (asked_of c.in-Some.command) (g.F.Folder.known c.args.files.now)
    (g.F.Folder.listed c.args.files.now) (g.F.Folder.requests c.args.files.now)
    (g.F.Folder.requests c.print_or_write-answer.new.files) (g.F.Folder.requests c.write_fault.new.files) c.write_fault.result
    c.print_or_write-answer.result
    (sym c.from_words.ensures ∙ ap (λ o. option_map asked_of o) c.in-Some.is) c.print_or_write-answer.ensures.requests
    c.write_fault.ensures.requests c.write_fault.ensures.status

pub returns-in-None-clause-requests : goal.returns-in-None-clause-requests
returns-in-None-clause-requests g c =
    let none : c.from_words.result ≡ None = search rules in
    others_followed (map string_bytes c.args.words.now) (g.F.Folder.known c.args.files.now) (g.F.Folder.listed c.args.files.now)
    (g.F.Folder.requests c.args.files.now) (g.F.Folder.requests c.run_others.new.files) c.run_others.result
    (sym c.from_words.ensures ∙ ap (λ o. option_map asked_of o) none) c.run_others.ensures.requests
