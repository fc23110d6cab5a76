use Rattle.std.proofs.Common.{rules, refl, ap, sym, ◌∙◌, BTreeMap, String, Global}
use Rattle.std.proofs.lemmas.Result.{IfOk-weaker, on_err_weaker}
use Rattle.liquid_value.specs.declared.shared_object.SharedObject.{the_lemmas}
use Rattle.std.specs.declared.rc.Rc.{Rc}
use Rattle.liquid_value.proofs.SharedLemmas.{members-Shared, same_or_copied_map}
use Rattle.liquid_value.specs.declared.value.Value.{Value}
use Rattle.liquid_value.specs.meaning.View.{object_view, members_view}
use Rattle.liquid_value.proofs.shared_object.SharedObject.to_mut.Goals as goal

pub returns-in-Shared : goal.returns-in-Shared
returns-in-Shared c = (
  (
    refl,
    (λ w ok. ap object_view (search (rules, the_lemmas)) ∙ members-Shared (c.make_mut.follows.lender w)
        ∙ ap (λ (k : BTreeMap (String Global) Value). members_view k.entries) (c.make_mut.follows.holds w ok)),
    on_err_weaker c.make_mut.result (λ h. ap object_view (search (rules, the_lemmas)) ∙ members-Shared c.make_mut.follows.lender-at-none
        ∙ same_or_copied_map _ c.make_mut.follows.lender-at-none.value h
        ∙ ap (λ (r : Rc (BTreeMap (String Global) Value) Global). members_view r.value.entries) c.in-Shared.object-is
        ∙ sym (members-Shared c.in-Shared.object) ∙ ap object_view (sym c.in-Shared.is)) c.make_mut.follows.holds-at-none,
  ),
  record {
    writes_back = tt;
    value = IfOk-weaker c.make_mut.result _ _ (λ m h. same_or_copied_map _ m.now h
        ∙ ap (λ (r : Rc (BTreeMap (String Global) Value) Global). members_view r.value.entries) c.in-Shared.object-is
        ∙ sym (members-Shared c.in-Shared.object) ∙ ap object_view (sym c.in-Shared.is)) c.make_mut.ensures.value;
  },
)
