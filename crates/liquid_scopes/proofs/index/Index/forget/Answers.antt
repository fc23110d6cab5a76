use Rattle.std.proofs.Common.{Some, rules}
use Rattle.std.specs.Prelude.{nat_eq}
use Rattle.std.proofs.lemmas.Map.Text.{btree_map_updates_text}
use Rattle.liquid_scopes.proofs.IndexLaws.{dropped_frame}
use Rattle.liquid_scopes.proofs.index.Index.forget.Goals as goal

pub returns-in-Some : goal.returns-in-Some
returns-in-Some c = λ q j.
    let m = c.args.self.now.places in
    let w = c.leave.new.self in
    let n = c.get_mut.follows.lender w in
    let up = btree_map_updates_text c.args.name.now m n (Some w) ((c.get_mut.follows.holds w).3 (search rules)) q in
    dropped_frame m n c.args.name.now q c.in-Some.frames.now w j (nat_eq j c.args.frame) c.in-Some.ensures.value up (c.leave.ensures j)
