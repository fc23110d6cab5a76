use Rattle.std.proofs.Common.{sym, ap, ◌∙◌, string_bytes, bytes_eq, cond, true}
use Rattle.std.specs.Prelude.{◌||◌}
use Rattle.std.specs.BTreeSet.{contains_text}
use Rattle.std.proofs.lemmas.Map.Text.{btree_set_updates_text}
use Rattle.liquid_runtime.proofs.Objects.{has_name, has_names_of, name_moves}
use Rattle.liquid_runtime.proofs.names.add_names.Goals as goal

pub loop-name-init : goal.loop-name-init
loop-name-init c = λ q.
    ap (λ es. has_name q es || contains_text c.args.below q) (c.into_iter-name-iterator.ensures.into_iter_gives
    ∙ c.iter-name-items.ensures.rest)
    ∙ ap (λ b. b || contains_text c.args.below q) (sym (has_names_of c.args.object.now q))

pub loop-name-preserved : goal.loop-name-preserved
loop-name-preserved c = λ q.
    let k = c.in_ok-clone.field-0 in
    let es = c.next.new.self in
    let moves = name_moves c.in-Some.name.now c.in-Some.field-0-1.now es c.loop-name.names c.insert.new.self q
    (λ cs. btree_set_updates_text (string_bytes k) _ _ _ c.in_ok-insert.ensures.updates cs
    ∙ ap (λ bs. cond (bytes_eq bs cs) true (contains_text c.loop-name.names cs)) c.in_ok-clone.ensures.cases) in
    sym moves ∙ ap (λ xs. has_name q xs || contains_text c.loop-name.names q) (sym c.in-Some.ensures.steps) ∙ c.loop-name.invariant q

pub returns : goal.returns
returns c = λ q. ap (λ es. has_name q es || contains_text c.loop-name.names q) (sym c.in-None.ensures.steps.0) ∙ c.loop-name.invariant q
