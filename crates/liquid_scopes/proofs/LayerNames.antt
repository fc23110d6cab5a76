-- The names that are seen in a layer.
use Rattle.std.proofs.Common.{ap, sym, ◌∙◌}
use Rattle.std.specs.Prelude.{String, is_some, ◌||◌}
use Rattle.std.specs.FinMap.{get}
use Rattle.liquid_runtime.specs.meaning.Maps.{Names, over}
use Rattle.std.specs.BTreeSet.{BTreeSet, contains_text}
use Rattle.std.specs.declared.alloc.Global.{Global}
use Rattle.liquid_runtime.specs.meaning.View.{View}
use Rattle.liquid_runtime.specs.meaning.Roots.{NamesOf, NamesOver}
use Rattle.liquid_runtime.specs.meaning.NamesSeen.{names_seen}
use Rattle.liquid_runtime.proofs.FrameLaws.{lookup_sandboxed, lookup_isolated}
use Rattle.liquid_runtime.proofs.FrameLookups.{roots_stack, roots_global, some-either}
use Rattle.liquid_runtime.proofs.MapLaws.{get-over}
use Rattle.liquid_scopes.specs.steps.Layers.{
  Layer,
  none_layer,
  stack_layer,
  global_layer,
  sandboxed_layer,
  isolated_layer,
  layer_view,
  LayerNames,
}

-- the names of two maps
pub names_both : (g d : Names) (below set : BTreeSet (String Global)) → NamesOf d below → NamesOver g below set → NamesOf (over g d) set
names_both g d below set of is =
    λ q. is q ∙ ap (λ b. is_some (get g q) || b) (of q) ∙ some-either (get g q) (get d q) ∙ ap is_some (sym (get-over g d q))

module _ {V Reg : Type 0} where
  pub roots_layer : (l : Layer V) (v : View Reg) (below set : BTreeSet (String Global)) → LayerNames l below set
      → NamesOf (names_seen v) below → NamesOf (names_seen (layer_view l v)) set
  roots_layer none_layer v below set is of = λ q. ap (λ s. contains_text s q) is ∙ of q
  roots_layer (stack_layer d n) v below set is of = roots_stack d n v below set is of
  roots_layer (global_layer g) v below set is of = roots_global g v below set is of
  roots_layer (sandboxed_layer d n saved) v below set is of = λ q. is q ∙ ap is_some (sym (lookup_sandboxed v.register d n v q))
  roots_layer (isolated_layer d g n saved) v below set is of =
      λ q. is q ∙ ap is_some (get-over g d q ∙ sym (lookup_isolated g v.register d n v q))
