-- A global that is hidden and that `leak` writes.
use Rattle.std.proofs.Common.{◌≡◌, ℕ, List, [], codes, None, Some, Result, Ok, refl, sym, ap, ◌∙◌}
use Rattle.std.specs.Ordering.{nat_cmp}
use Rattle.std.specs.Cmp.Lexicographic.{slice_cmp, nat_list_cmp_total}
use Rattle.std.specs.FinMap.{empty, insert, get, get-empty, get-insert}
use Rattle.liquid_error.specs.meaning.Refusal.{Refusal}
use Rattle.liquid_scalar.specs.meaning.Scalar.{text}
use Rattle.liquid_value.specs.meaning.Tree.{Tree, scalar, nil}
use Rattle.liquid_runtime.specs.meaning.Maps.{Names}
use Rattle.liquid_runtime.specs.meaning.View.{View}
use Rattle.liquid_runtime.specs.meaning.Frames.{core_view}
use Rattle.liquid_plugins.specs.meaning.Expression.{literal}
use Rattle.liquid_plugins.specs.meaning.Turns.{Answered, TurnShape, text_turn}
use Rattle.liquid_plugins.specs.meaning.Discreet.{hiding}
use Rattle.test_plugins.specs.declared.tags.LeakyTagShape.TheVariants as shape
use Rattle.test_plugins.specs.laws.LeakLaw.{LeakIsNotDiscreet}
use Rattle.test_plugins.specs.meaning.Tags.{leaky_tag_nodes}

abbrev s : List ℕ
s = codes "s"

abbrev value : Tree
value = scalar (text (codes "S"))

abbrev no_names : Names
no_names = empty

abbrev hidden_s : Names
hidden_s = insert empty s value

s_there : get hidden_s s ≡ Some value
s_there = get-insert nat_list_cmp_total no_names s value s

s_not_there : get no_names s ≡ None
s_not_there = get-empty (slice_cmp nat_cmp) s

-- the turn writes this text
abbrev Says : List ℕ → Result TurnShape Refusal → Type 0
Says t (Ok (text_turn piece)) = piece ≡ t
Says t other = ⊥

module _ {Reg : Type 0} where
  -- what `leak` returns if these globals are hidden
  abbrev leaked : View Reg → Names → Answered TurnShape ℕ Reg
  leaked v names = leaky_tag_nodes.takes (shape.Leak s (literal nil)) 1 (hiding names v)

  pub leak_is_not : Reg → LeakIsNotDiscreet Reg
  leak_is_not register discreet =
      let v : View Reg = core_view register 0 in
      let there : (leaked v hidden_s).answer ≡ Ok (text_turn (codes "S")) = rw s_there refl in
      let absent : (leaked v no_names).answer ≡ Ok (text_turn []) = rw s_not_there refl in
      let same : (leaked v hidden_s).answer ≡ (leaked v no_names).answer =
      ap (λ (t : Answered TurnShape ℕ Reg). t.answer) (discreet.turn (shape.Leak s (literal nil)) 1 hidden_s v) in
      let e : ◌≡◌ {A = Result TurnShape Refusal} (Ok (text_turn (codes "S"))) (Ok (text_turn [])) = sym there ∙ same ∙ absent in
      cc
