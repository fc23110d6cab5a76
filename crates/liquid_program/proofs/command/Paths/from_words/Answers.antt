use Rattle.std.proofs.Common.{◌≡◌, ◌∷◌, map, string_bytes, true, rules, ◌∙◌, ap, sym, List, ℕ}
use Rattle.liquid_program.specs.meaning.Command.{are_paths, path_words, first_word}
use Rattle.liquid_program.proofs.CommandWords.{words_of_paths}
use Rattle.liquid_program.proofs.command.Paths.from_words.Goals as goal

pub returns-then-are_paths-clause-words : goal.returns-then-are_paths-clause-words
returns-then-are_paths-clause-words c =
    let template = c.as_str.result.now in
    let globals = c.as_str-2.result.now in
    let rest = map string_bytes c.in_ok-globals.rest.now in
    let words : map string_bytes c.args.words.now ≡ template ∷ globals ∷ rest = search rules in
    let is : are_paths (template ∷ globals ∷ rest) ≡ true = search rules in
    let same_template : template ≡ c.as_str-then-are_paths.result.now = search rules in
    let same_globals : globals ≡ c.as_str-then-are_paths-2.result.now = search rules in
    words ∙ words_of_paths template globals rest is
    ∙ ap (λ (t : List ℕ). path_words t globals (first_word rest)) same_template
    ∙ ap (λ (g : List ℕ). path_words c.as_str-then-are_paths.result.now g (first_word rest)) same_globals
    ∙ ap (path_words c.as_str-then-are_paths.result.now c.as_str-then-are_paths-2.result.now) (sym c.first_of.ensures)
