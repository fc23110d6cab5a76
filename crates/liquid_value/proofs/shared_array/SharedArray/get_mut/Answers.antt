use Rattle.std.proofs.Common.{rules, refl, ap, sym, ◌∙◌, Global}
use Rattle.std.specs.Global.{Vec}
use Rattle.std.proofs.lemmas.Option.{IfSome_then}
use Rattle.std.specs.Rc.{rc_with_value}
use Rattle.liquid_value.specs.declared.shared_array.SharedArray.{the_lemmas}
use Rattle.std.specs.declared.rc.Rc.{Rc}
use Rattle.liquid_value.proofs.SharedLemmas.{items-Shared}
use Rattle.liquid_value.specs.declared.value.Value.{Value}
use Rattle.liquid_value.specs.meaning.View.{array_view, items_view}
use Rattle.liquid_value.proofs.shared_array.SharedArray.get_mut.Goals as goal

pub returns-in-Shared : goal.returns-in-Shared
returns-in-Shared c = (
  (
    refl,
    (λ w. ap array_view (search (rules, the_lemmas)) ∙ items-Shared (rc_with_value c.in-Shared.array w)),
    ap array_view (search (rules, the_lemmas)),
  ),
  record {
    writes_back = tt;
    value = IfSome_then c.get_mut.result c.get_mut.ensures.value
        (λ m e. ap (λ (k : Vec Value). items_view k.items) e
        ∙ ap (λ (r : Rc (Vec Value) Global). items_view r.value.items) c.in-Shared.array-is ∙ sym (items-Shared c.in-Shared.array)
        ∙ ap array_view (sym c.in-Shared.is));
  },
)
