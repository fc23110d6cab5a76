use Rattle.std.proofs.Common.{rules, refl, ap, sym, ◌∙◌, Global}
use Rattle.std.specs.Global.{Vec}
use Rattle.std.proofs.lemmas.Result.{IfOk-weaker, on_err_weaker}
use Rattle.liquid_value.specs.declared.shared_array.SharedArray.{the_lemmas}
use Rattle.std.specs.declared.rc.Rc.{Rc}
use Rattle.liquid_value.proofs.SharedLemmas.{and_then, items-Shared, same_or_copied_list}
use Rattle.liquid_value.specs.declared.value.Value.{Value}
use Rattle.liquid_value.specs.meaning.View.{array_view, items_view}
use Rattle.liquid_value.proofs.shared_array.SharedArray.to_mut.Goals as goal

pub returns-in-Shared : goal.returns-in-Shared
returns-in-Shared c = (
  (
    refl,
    (λ w ok. ap array_view (search (rules, the_lemmas)) ∙ items-Shared (c.make_mut.follows.lender w)
        ∙ ap (λ (k : Vec Value). items_view k.items) (c.make_mut.follows.holds w ok)),
    on_err_weaker c.make_mut.result (and_then (ap array_view (search (rules, the_lemmas))
        ∙ items-Shared c.make_mut.follows.lender-at-none) (λ h. same_or_copied_list _ c.make_mut.follows.lender-at-none.value h
        ∙ ap (λ (r : Rc (Vec Value) Global). items_view r.value.items) c.in-Shared.array-is ∙ sym (items-Shared c.in-Shared.array)
        ∙ ap array_view (sym c.in-Shared.is))) c.make_mut.follows.holds-at-none,
  ),
  record {
    writes_back = tt;
    value = IfOk-weaker c.make_mut.result _ _ (λ m h. same_or_copied_list _ m.now h
        ∙ ap (λ (r : Rc (Vec Value) Global). items_view r.value.items) c.in-Shared.array-is ∙ sym (items-Shared c.in-Shared.array)
        ∙ ap array_view (sym c.in-Shared.is)) c.make_mut.ensures.value;
  },
)
