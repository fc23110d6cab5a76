use Rattle.std.proofs.Common.{rules, refl, ap, sym, ◌∙◌, BTreeMap, String, Global}
use Rattle.std.proofs.lemmas.Option.{IfSome_then}
use Rattle.std.specs.Rc.{rc_with_value}
use Rattle.liquid_value.specs.declared.shared_object.SharedObject.{the_lemmas}
use Rattle.std.specs.declared.rc.Rc.{Rc}
use Rattle.liquid_value.proofs.SharedLemmas.{members-Shared}
use Rattle.liquid_value.specs.declared.value.Value.{Value}
use Rattle.liquid_value.specs.meaning.View.{object_view, members_view}
use Rattle.liquid_value.proofs.shared_object.SharedObject.get_mut.Goals as goal

pub returns-in-Shared : goal.returns-in-Shared
returns-in-Shared c = (
  (
    refl,
    (λ w. ap object_view (search (rules, the_lemmas)) ∙ members-Shared (rc_with_value c.in-Shared.object w)),
    ap object_view (search (rules, the_lemmas)),
  ),
  record {
    writes_back = tt;
    value = IfSome_then c.get_mut.result c.get_mut.ensures.value
        (λ m e. ap (λ (k : BTreeMap (String Global) Value). members_view k.entries) e
        ∙ ap (λ (r : Rc (BTreeMap (String Global) Value) Global). members_view r.value.entries) c.in-Shared.object-is
        ∙ sym (members-Shared c.in-Shared.object) ∙ ap object_view (sym c.in-Shared.is));
  },
)
