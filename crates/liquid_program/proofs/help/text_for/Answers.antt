use Rattle.std.proofs.Common.{rules, map, string_bytes}
use Rattle.liquid_program.proofs.HelpWords.{help_is_no_command, one_word}
use Rattle.liquid_program.proofs.help.text_for.Goals as goal

pub returns-then-eq-2 : goal.returns-then-eq-2
returns-then-eq-2 c =
    help_is_no_command (map string_bytes c.args.words.now) (string_bytes c.word-item.result)
    (one_word c.args.words.now c.word-item.result (search rules) (search rules) c.word-item.is) (search rules)
