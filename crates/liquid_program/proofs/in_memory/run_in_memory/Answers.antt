use Rattle.std.proofs.Common.{map, string_bytes}
use Rattle.liquid_files.specs.meaning.InMemory.{bytes_at, names_at}
use Rattle.liquid_program.proofs.ShownRuns.{Shows-printed}
use Rattle.liquid_program.proofs.in_memory.run_in_memory.Goals as goal

pub returns-clause-shows : goal.returns-clause-shows
returns-clause-shows c =
    Shows-printed (map string_bytes c.args.words.now) (bytes_at c.args.files.now) (bytes_at c.run-status.new.files)
    (names_at c.args.files.now) c.run-status.new.out.items c.run-status.result (rw c.new-out.ensures.items at c.run-status.ensures.prints)
