use Rattle.std.proofs.Common.{rules, ◌≡◌, ◌∙◌, ◌++◌, map, subst, true, false}
use Rattle.std.specs.Prelude.{is_ok}
use Rattle.liquid_files.specs.meaning.Files.{listing}
use Rattle.page_site.specs.meaning.Requested.{Follows}
use Rattle.page_site.proofs.RequestLemmas.{follows_failed, follows_stop, follows_then}
use Rattle.liquid_page.specs.meaning.Command.{data_requests, folder_requests}
use Rattle.liquid_page.specs.meaning.Names.{path_named}
use Rattle.liquid_page.specs.meaning.Requests.{words_of}
use Rattle.liquid_page.proofs.run.gather.Goals as goal

pub returns-in_err-names-clause-requests : goal.returns-in_err-names-clause-requests
returns-in_err-names-clause-requests g c = λ folders listed.
    let words = words_of c.args.request.now in
    let sources = data_requests words in
    let parts = folder_requests folders words.folder in
    let lists = map (λ word. listing true (path_named word)) words.templates in
    let start = g.D.Folder.requests c.args.files.now in
    let one = g.D.Folder.requests c.read_names.new.files in
    let failed : is_ok c.from_residual.result ≡ false = search rules in
    follows_stop sources (parts ++ lists) start one (is_ok c.read_names.result) (is_ok c.from_residual.result) failed
    c.read_names.ensures.requests

pub returns-in_err-partials_of-clause-requests : goal.returns-in_err-partials_of-clause-requests
returns-in_err-partials_of-clause-requests g c = λ folders listed.
    let words = words_of c.args.request.now in
    let sources = data_requests words in
    let parts = folder_requests folders words.folder in
    let lists = map (λ word. listing true (path_named word)) words.templates in
    let start = g.D.Folder.requests c.args.files.now in
    let one = g.D.Folder.requests c.read_names.new.files in
    let all_read : is_ok c.read_names.result ≡ true = search rules in
    let first = subst (λ b. Follows sources start one b) all_read c.read_names.ensures.requests in
    let two = g.D.Folder.requests c.partials_of.new.files in
    let second = c.partials_of.ensures.requests folders (c.read_names.ensures.listed ∙ listed) in
    let failed : is_ok c.from_residual-in_err-partials_of.result ≡ false = search rules in
    follows_then sources (parts ++ lists) start one two (is_ok c.from_residual-in_err-partials_of.result) first
    (follows_stop parts lists one two (is_ok c.partials_of.result) (is_ok c.from_residual-in_err-partials_of.result) failed second)

pub returns-in_err-partials-clause-requests : goal.returns-in_err-partials-clause-requests
returns-in_err-partials-clause-requests g c = λ folders listed.
    let words = words_of c.args.request.now in
    let sources = data_requests words in
    let parts = folder_requests folders words.folder in
    let lists = map (λ word. listing true (path_named word)) words.templates in
    let start = g.D.Folder.requests c.args.files.now in
    let one = g.D.Folder.requests c.read_names.new.files in
    let all_read : is_ok c.read_names.result ≡ true = search rules in
    let first = subst (λ b. Follows sources start one b) all_read c.read_names.ensures.requests in
    let two = g.D.Folder.requests c.partials_of.new.files in
    let second = c.partials_of.ensures.requests folders (c.read_names.ensures.listed ∙ listed) in
    let failed : is_ok c.from_residual-in_err-partials.result ≡ false = search rules in
    follows_then sources (parts ++ lists) start one two (is_ok c.from_residual-in_err-partials.result) first
    (follows_stop parts lists one two (is_ok c.partials_of.result) (is_ok c.from_residual-in_err-partials.result) failed second)

pub returns-in_err-items-clause-requests : goal.returns-in_err-items-clause-requests
returns-in_err-items-clause-requests g c = λ folders listed.
    let words = words_of c.args.request.now in
    let sources = data_requests words in
    let parts = folder_requests folders words.folder in
    let lists = map (λ word. listing true (path_named word)) words.templates in
    let start = g.D.Folder.requests c.args.files.now in
    let one = g.D.Folder.requests c.read_names.new.files in
    let all_read : is_ok c.read_names.result ≡ true = search rules in
    let first = subst (λ b. Follows sources start one b) all_read c.read_names.ensures.requests in
    let two = g.D.Folder.requests c.partials_of.new.files in
    let second = c.partials_of.ensures.requests folders (c.read_names.ensures.listed ∙ listed) in
    let all_parts : is_ok c.partials_of.result ≡ true = search rules in
    let both = subst (λ b. Follows parts one two b) all_parts second in
    let three = g.D.Folder.requests c.plan.new.files in
    let last =
    subst (λ ws. Follows (map (λ word. listing true (path_named word)) (map (λ word. word.now) ws)) two three (is_ok c.plan.result))
    c.as_slice.ensures.value c.plan.ensures.requests in
    let failed : is_ok c.from_residual-in_err-items.result ≡ false = search rules in
    follows_then sources (parts ++ lists) start one three (is_ok c.from_residual-in_err-items.result) first
    (follows_then parts lists one two three (is_ok c.from_residual-in_err-items.result) both
    (follows_failed lists two three (is_ok c.plan.result) (is_ok c.from_residual-in_err-items.result) failed last))

pub returns-clause-requests : goal.returns-clause-requests
returns-clause-requests g c = λ folders listed.
    let words = words_of c.args.request.now in
    let sources = data_requests words in
    let parts = folder_requests folders words.folder in
    let lists = map (λ word. listing true (path_named word)) words.templates in
    let start = g.D.Folder.requests c.args.files.now in
    let one = g.D.Folder.requests c.read_names.new.files in
    let all_read : is_ok c.read_names.result ≡ true = search rules in
    let first = subst (λ b. Follows sources start one b) all_read c.read_names.ensures.requests in
    let two = g.D.Folder.requests c.partials_of.new.files in
    let second = c.partials_of.ensures.requests folders (c.read_names.ensures.listed ∙ listed) in
    let all_parts : is_ok c.partials_of.result ≡ true = search rules in
    let both = subst (λ b. Follows parts one two b) all_parts second in
    let three = g.D.Folder.requests c.plan.new.files in
    let last =
    subst (λ ws. Follows (map (λ word. listing true (path_named word)) (map (λ word. word.now) ws)) two three (is_ok c.plan.result))
    c.as_slice.ensures.value c.plan.ensures.requests in
    let planned : is_ok c.plan.result ≡ true = search rules in
    follows_then sources (parts ++ lists) start one three true first
    (follows_then parts lists one two three true both (subst (λ b. Follows lists two three b) planned last))
