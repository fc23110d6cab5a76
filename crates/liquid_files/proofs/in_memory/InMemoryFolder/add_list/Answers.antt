use Rattle.std.proofs.Common.{◌≡◌, Some, false, map, string_bytes, ◌∙◌, if◌then◌else◌, ap}
use Rattle.std.specs.Str.{bytes_eq}
use Rattle.liquid_files.specs.meaning.InMemory.{names_at}
use Rattle.liquid_files.proofs.FilesInMemory.{names_at-insert}
use Rattle.liquid_files.proofs.in_memory.InMemoryFolder.add_list.Goals as goal

pub returns-clause-added : goal.returns-clause-added
returns-clause-added c = λ p.
    let key = c.in_ok-from_str.field-0 in
    let same_path : string_bytes key ≡ c.args.path.now = c.in_ok-from_str.ensures.ok in
    names_at-insert c.args.self.now.folders c.insert.new.self key c.args.names c.in_ok-insert.ensures.updates p
    ∙ ap (λ path. if bytes_eq path p then Some (map string_bytes c.args.names.items) else names_at c.args.self.now false p) same_path
