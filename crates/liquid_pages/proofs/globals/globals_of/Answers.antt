use Rattle.std.proofs.Common.{◌≡◌, Ok, ap, ◌∙◌}
use Rattle.liquid_value.specs.meaning.View.{members_view}
use Rattle.liquid_pages.specs.meaning.Globals.{names_given}
use Rattle.liquid_pages.proofs.GlobalLemmas.{object_given}
use Rattle.liquid_pages.proofs.globals.globals_of.Goals as goal

pub returns-in-Ok-Ok : goal.returns-in-Ok-Ok
returns-in-Ok-Ok c =
    let read = c.in-Ok-Ok.ensures.read in
    let answer = read.2 in
    let given : read.0 ≡ Ok (members_view c.in-Ok-Ok.object.entries) = rw c.in-Ok-Ok.field-0-is at answer in
    ap names_given read.1 ∙ object_given read.0 c.in-Ok-Ok.object given
