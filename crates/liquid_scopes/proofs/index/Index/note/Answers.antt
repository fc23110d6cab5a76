use Rattle.std.proofs.Common.{◌≡◌, sym, ap, ◌∙◌, Some, string_bytes, bytes_eq}
use Rattle.std.specs.Prelude.{nat_eq, ◌&&◌, ◌||◌}
use Rattle.std.specs.BTreeMap.{get_by_text}
use Rattle.std.proofs.lemmas.Map.Text.{btree_map_updates_text}
use Rattle.std.proofs.Common.{rules}
use Rattle.liquid_scopes.specs.steps.Standing.{stands}
use Rattle.liquid_scopes.proofs.IndexLaws.{added_frame, same_frames, new_name, on_ok, on_err}
use Rattle.liquid_scopes.proofs.index.Index.note.Goals as goal

pub returns-in-Some-clause-noted : goal.returns-in-Some-clause-noted
returns-in-Some-clause-noted c =
    let w = c.add.new.self in
    on_ok c.add.result (λ h q j. added_frame c.args.self.now.places (c.get_mut.follows.lender w) c.args.name.now q c.in-Some.frames.now w j
    (nat_eq j c.args.frame) c.in-Some.ensures.value
    (btree_map_updates_text c.args.name.now c.args.self.now.places (c.get_mut.follows.lender w) (Some w)
    ((c.get_mut.follows.holds w).3 (search rules)) q) (h j)) c.add.ensures.added

pub returns-in-Some-clause-unchanged : goal.returns-in-Some-clause-unchanged
returns-in-Some-clause-unchanged c =
    let w = c.add.new.self in
    on_err c.add.result (λ h q j. same_frames c.args.self.now.places
    (c.get_mut.follows.lender w) c.args.name.now q c.in-Some.frames.now w j c.in-Some.ensures.value
    (btree_map_updates_text c.args.name.now c.args.self.now.places (c.get_mut.follows.lender w) (Some w)
    ((c.get_mut.follows.holds w).3 (search rules)) q) (h j)) c.add.ensures.unchanged

pub returns-clause-noted : goal.returns-clause-noted
returns-clause-noted c = λ q j.
    let m = c.args.self.now.places in
    let asked = c.get_mut.follows.lender-at-none in
    let same : asked ≡ m = c.get_mut.follows.holds-at-none in
    let k = string_bytes c.in_ok-name.name in
    let named : k ≡ c.args.name.now = c.in_ok-name.ensures.ok in
    new_name asked c.insert.new.self k q c.one.result j (nat_eq j c.args.frame)
    (c.in-None.ensures.value ∙ ap (get_by_text m) (sym named) ∙ ap (λ x. get_by_text x k) (sym same))
    (btree_map_updates_text k asked c.insert.new.self (Some c.one.result) c.in_ok-insert.ensures.updates q) (c.one.ensures j)
    ∙ ap (λ x. stands x q j || (bytes_eq k q && nat_eq j c.args.frame)) same
    ∙ ap (λ bs. stands m q j || (bytes_eq bs q && nat_eq j c.args.frame)) named
