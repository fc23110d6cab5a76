use Rattle.std.proofs.Common.{◌≡◌, sym, ap, ◌∙◌, string_bytes, bytes_eq}
use Rattle.std.specs.Prelude.{is_some, nat_eq, ◌&&◌, ◌||◌}
use Rattle.std.specs.FinMap.{get}
use Rattle.liquid_runtime.specs.meaning.Maps.{names_of}
use Rattle.liquid_scopes.specs.steps.Standing.{stands}
use Rattle.liquid_runtime.proofs.Objects.{has_name, has_names_of}
use Rattle.liquid_scopes.proofs.IndexLaws.{has_more, note_moves, stays_there, partly_noted, or_same}
use Rattle.std.proofs.Math.Bool.{or-false}
use Rattle.liquid_scopes.proofs.index.Index.note_all.Goals as goal

pub loop-name-init : goal.loop-name-init
loop-name-init c = λ q j. (
  ap (λ b. stands c.args.self.now.places q j || (b && nat_eq j c.args.frame))
      (ap (has_name q) (c.into_iter-name-iterator.ensures.into_iter_gives ∙ c.iter-name-items.ensures.rest)
      ∙ sym (has_names_of c.args.names.now q)),
  or_same (stands c.args.self.now.places q j),
)

pub loop-name-preserved : goal.loop-name-preserved
loop-name-preserved c = λ q j.
    let S = stands c.loop-name.self.places q j in
    let O = stands c.args.self.now.places q j in
    let k = c.in-Some.name.now in
    let es = c.next.new.self in
    let e = nat_eq j c.args.frame in
    let b = bytes_eq (string_bytes k) q in
    let noted : stands c.note.new.self.places q j ≡ (S || (b && e)) =
    c.in_ok-note.ensures.noted q j ∙ ap (λ bs. S || (bytes_eq bs q && e)) c.as_str.ensures.value in
    let more : has_name q c.loop-name.name-iterator ≡ (b || has_name q es) =
    ap (has_name q) c.in-Some.ensures.steps ∙ has_more k c.in-Some.field-0-1.now es q in (
      ap (λ x. x || (has_name q es && e)) noted ∙ note_moves S b (has_name q es) e ∙ ap (λ x. S || (x && e)) (sym more)
          ∙ (c.loop-name.invariant q j).0,
      ap (λ x. x || O) noted ∙ stays_there S (b && e) O (c.loop-name.invariant q j).1 ∙ sym noted,
    )

pub returns-in_err-note-clause-partly : goal.returns-in_err-note-clause-partly
returns-in_err-note-clause-partly c = λ q j.
    let S = stands c.loop-name.self.places q j in
    let O = stands c.args.self.now.places q j in
    let e = nat_eq j c.args.frame in
    let X = is_some (get (names_of c.args.names.now) q) && e in
    ap (λ x. x || X) (c.in_err-note.ensures.unchanged q j) ∙ partly_noted S O X (has_name q c.loop-name.name-iterator && e)
    (c.loop-name.invariant q j).0 (c.loop-name.invariant q j).1

pub returns-clause-noted : goal.returns-clause-noted
returns-clause-noted c = λ q j.
    let S = stands c.loop-name.self.places q j in
    let e = nat_eq j c.args.frame in
    sym (or-false S) ∙ ap (λ es. S || (has_name q es && e)) (sym c.in-None.ensures.steps.0) ∙ (c.loop-name.invariant q j).0

pub returns-clause-partly : goal.returns-clause-partly
returns-clause-partly c = λ q j.
    let S = stands c.loop-name.self.places q j in
    let O = stands c.args.self.now.places q j in
    let e = nat_eq j c.args.frame in
    partly_noted S O (is_some (get (names_of c.args.names.now) q) && e) (has_name q c.loop-name.name-iterator && e)
    (c.loop-name.invariant q j).0 (c.loop-name.invariant q j).1
