-- The struct has no bytes, so its ghost fields may be the empty list and zero.
use Rattle.std.proofs.Common.{◌≡◌, [], ◌∷◌, refl}
use Rattle.std.proofs.raw_atomic.Walks.{proved}
use mir.Val.{Val, vstruct, vcons, vnil}
use types.Kit.{raw, ◌$◌, ◌∵◌, !, qed, keep, join, suffices, done}
use types.Run.{no_more, and_then, returns, enter}
use types.Part.{agg}
use types.ByLocal.{alloc_all, pass_all, free_all, look_at, get, sets}
use denote.Shadow.{pure_i}
use denote.Steps.{nothing}
use denote.Triple.Entry.{on_entry}
use denote.Triple.Walked.{says, ends_at}
use Rattle.liquid_template.specs.declared.history.History.{History}
use Rattle.liquid_template.specs.contracts.history.History.{the_row as R}
use Rattle.liquid_template.specs.contracts.history.History.new as f
use Rattle.liquid_template.proofs.history.History.new.Statement.{statement}
use Rattle.liquid_template.proofs.history.History.new.Code as code

abbrev stored : Val
stored = vstruct (vcons (vstruct vnil) vnil)

abbrev empty : History
empty = record { marker = record {}; taken = []; failures = 0 }

pub new_spec : {M : Type 1} → statement M
new_spec 𝓤 𝓛 𝓜 𝓡 wired =
    let c = f.clauses 𝓛 𝓜.mem 𝓡.returns in let both : (empty.taken ≡ []) × (empty.failures ≡ 0) = (refl, refl) in
    proved 𝓛 f.ended tt c 𝓜 𝓡 tt
    f.Key.name code.function (code.unfolded 𝓤 𝓛.H 𝓜 𝓡 wired)
    (λ κs. tt) (λ κs. tt) (λ κs qs bounds a g are.
    qed 𝓛 (raw (on_entry 𝓛 f.signature κs qs a tt) ∷ raw ((c κs a).requires g) ∷ []) ∵ keep ! [] $
    enter ! _ _ _ _ _ $ alloc_all ! (λ l. pass_all ! refl tt $
    sets ! (agg ! (no_more !)) refl (tt, tt) $ sets ! (agg ! (and_then ! (get ! refl) (no_more !))) refl (tt, (tt, tt)) $
    returns ! (look_at ! 0 refl) $ free_all ! refl $
    pure_i ! (R.own_val empty (stored ∷ [])) ((λ vss. (tt, ((λ uss. (tt, tt)), tt))), tt)
    (((vstruct vnil ∷ [], tt), (refl, ((tt, (refl, tt)), tt))), tt) $
    suffices ! _ (ends_at 𝓛 f.ended tt c ((κs, qs, bounds, a, tt), g) stored empty tt tt) $ says ! both $
    nothing ! $ join ! $ nothing ! $ done !))
