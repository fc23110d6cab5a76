use Rattle.std.proofs.Common.{◌≡◌, ◌++◌, ◌∷◌, [], refl, rules, map}
use Rattle.std.specs.Prelude.{string_bytes}
use Rattle.liquid_error.specs.meaning.Told.{entry_of, note_of}
use Rattle.liquid_error.proofs.Newest.{noted_newest, noted_message}
use Rattle.liquid_error.proofs.report.Report.context.Goals as goal

pub returns-in_ok-push-in-Some : goal.returns-in_ok-push-in-Some
returns-in_ok-push-in-Some c =
    let was : c.args.self.traces.items ≡ c.pop.new.self.items ++ c.in-Some.newest ∷ [] = search rules in
    let is : note_of c.note.new.self ≡ record (note_of c.in-Some.newest) {
      contexts = (note_of c.in-Some.newest).contexts
          ++ (string_bytes c.args.key, string_bytes c.args.value) ∷ [];
    } = search rules in
    let newest = noted_newest (
      string_bytes c.args.key,
      string_bytes c.args.value,
    ) c.pop.new.self.items c.in-Some.newest c.note.new.self is in
    let message = noted_message (string_bytes c.args.key, string_bytes c.args.value) c.pop.new.self.items c.in-Some.newest
    (map entry_of c.args.self.contexts.items) in
    rw (c.in_ok-push-in-Some.ensures.items, was, newest, message) refl
