use Rattle.std.proofs.Common.{codes, string_bytes, bytes_eq, ap, ◌∙◌}
use Rattle.std.specs.Prelude.{is_some, nat_eq, ◌&&◌, ◌||◌}
use Rattle.std.specs.FinMap.{get}
use Rattle.std.proofs.lemmas.Result.{on_ok_weaker}
use Rattle.liquid_runtime.specs.meaning.LoopNames.{loop_names}
use Rattle.liquid_runtime.proofs.LoopLaws.{two_names}
use Rattle.liquid_scopes.specs.steps.Standing.{stands}
use Rattle.liquid_scopes.proofs.GivesLaws.{on_both}
use Rattle.liquid_scopes.proofs.LoopPlaces.{both_noted, both_partly, one_partly}
use Rattle.liquid_scopes.proofs.link.note_loop.Goals as goal

pub returns-clause-noted : goal.returns-clause-noted
returns-clause-noted c =
    let l = c.args.frame.now in
    on_ok_weaker c.note-2.result (λ noted q j.
    let e = nat_eq j c.args.place in
    both_noted (stands c.args.index.now.places q j) (stands c.note.new.self.places q j) (stands c.note-2.new.self.places q j)
    (bytes_eq (codes "forloop") q) (bytes_eq (string_bytes l.name) q) e (is_some (get (loop_names l) q)) (two_names l q)
    (c.in_ok-note.ensures.noted q j)
    (noted q j ∙ ap (λ bs. stands c.note.new.self.places q j || (bytes_eq bs q && e)) c.own_name.ensures)) c.note-2.ensures.noted

pub returns-clause-partly : goal.returns-clause-partly
returns-clause-partly c = λ q j.
    let l = c.args.frame.now in
    let e = nat_eq j c.args.place in
    on_both c.note-2.result
    (λ noted. both_partly (stands c.args.index.now.places q j) (stands c.note.new.self.places q j) (stands c.note-2.new.self.places q j)
    (bytes_eq (codes "forloop") q) (bytes_eq (string_bytes l.name) q) e (is_some (get (loop_names l) q)) (two_names l q)
    (c.in_ok-note.ensures.noted q j)
    (noted q j ∙ ap (λ bs. stands c.note.new.self.places q j || (bytes_eq bs q && e)) c.own_name.ensures))
    (λ same. one_partly (stands c.args.index.now.places q j) (stands c.note.new.self.places q j) (stands c.note-2.new.self.places q j)
    (bytes_eq (codes "forloop") q) (bytes_eq (string_bytes l.name) q) e (is_some (get (loop_names l) q)) (two_names l q)
    (c.in_ok-note.ensures.noted q j) (same q j))
    c.note-2.ensures.noted c.note-2.ensures.unchanged
