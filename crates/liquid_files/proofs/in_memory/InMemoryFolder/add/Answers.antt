use Rattle.std.proofs.Common.{rules, ◌≡◌, Some, string_bytes, ◌∙◌, if◌then◌else◌, ap}
use Rattle.std.specs.Str.{bytes_eq}
use Rattle.liquid_files.specs.meaning.InMemory.{bytes_at}
use Rattle.liquid_files.proofs.FilesInMemory.{bytes_at-insert}
use Rattle.liquid_files.proofs.in_memory.InMemoryFolder.add.Goals as goal

pub returns-clause-added : goal.returns-clause-added
returns-clause-added c = λ p.
    let key = c.in_ok-from_str.field-0 in
    let file = c.in_ok-bytes.bytes in
    let same_path : string_bytes key ≡ c.args.path.now = c.in_ok-from_str.ensures.ok in
    let same_bytes : file.items ≡ c.args.bytes.now = search rules in
    bytes_at-insert c.args.self.now.files c.insert.new.self key file c.in_ok-insert.ensures.updates p
    ∙ ap (λ path. if bytes_eq path p then Some file.items else bytes_at c.args.self.now p) same_path
    ∙ ap (λ bytes. if bytes_eq c.args.path.now p then Some bytes else bytes_at c.args.self.now p) same_bytes
