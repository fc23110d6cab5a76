-- Tags whose turns do not depend on hidden globals.
use Rattle.std.proofs.Common.{◌≡◌, ℕ, ℤ, List, [], ◌∷◌, Option, None, Some, Result, Ok, Err, refl, sym, ap, ◌∙◌}
use Rattle.std.specs.FinMap.{empty, insert}
use Rattle.liquid_error.specs.meaning.Refusal.{Refusal, ok_then}
use Rattle.liquid_scalar.specs.meaning.Scalar.{integer}
use Rattle.liquid_value.specs.meaning.Tree.{Tree, scalar}
use Rattle.liquid_runtime.specs.meaning.Maps.{Names}
use Rattle.liquid_runtime.proofs.MapLaws.{empty-over, insert-over}
use Rattle.liquid_runtime.specs.meaning.View.{View}
use Rattle.liquid_runtime.specs.meaning.Calls.{value_in}
use Rattle.liquid_runtime.specs.meaning.Sets.{old_index, put_index}
use Rattle.liquid_runtime.specs.meaning.Erased.{erase}
use Rattle.liquid_plugins.specs.meaning.Chain.{FilterMeaning, ChainShape, chain_value, filtered}
use Rattle.liquid_plugins.specs.meaning.Expression.{ExpressionShape}
use Rattle.liquid_plugins.specs.meaning.Evaluation.{evaluate}
use Rattle.liquid_plugins.specs.meaning.Turns.{text_turn, end_turn}
use Rattle.liquid_plugins.specs.meaning.Discreet.{Discreet, hiding, overlaid, HidesGlobals}
use Rattle.std.specs.Fmt.{signed_decimal}
use Rattle.liquid_tags.specs.declared.partial_call.call.Inclusion.{Inclusion}
use Rattle.liquid_tags.specs.declared.tags.TagShape.{TagShape}
use Rattle.liquid_tags.specs.declared.tags.TagShape.TheVariants.{Assign, Increment, Interrupts, Includes}
use Rattle.liquid_tags.specs.meaning.Counters.{counted_on, counts_from, one_higher, past_limit}
use Rattle.liquid_plugins.proofs.Hiding.{answers_hide, evaluate_hidden}
use Rattle.liquid_tags.specs.meaning.Partials.{Pair, bound, included, inclusion_turn, partial_name}
use Rattle.liquid_tags.specs.meaning.Tags.{assigns, tag_nodes, tag_takes}
use Rattle.liquid_plugins.specs.meaning.Turning.{answers, begins_with}

-- one result after another, where what follows is the same
ok_then_same : {A B : Type 0} (r : Result A Refusal) (f g : A → Result B Refusal) → ((x : A) → f x ≡ g x) → ok_then r f ≡ ok_then r g
ok_then_same (Ok x) f g e = e x
ok_then_same (Err refusal) f g e = refl

module _ {F Reg : Type 0} (m : FilterMeaning F) where
  -- a chain does not see what is hidden
  chain_hidden : (c : ChainShape F) (g : Names) (v : View Reg) → chain_value m c (hiding g v) ≡ chain_value m c (hiding empty v)
  chain_hidden c g v = ap (λ r. ok_then r (filtered m (erase (hiding empty v)) c.filters)) (evaluate_hidden g v c.entry)

  -- assigning a name over hidden globals is laying it over them
  assigns_hide : {P : Type 0} (name : List ℕ) (r : Result Tree Refusal) (p : P) (g : Names) (v : View Reg)
      → assigns name r p (hiding g v) ≡ overlaid g (assigns name r p (hiding empty v))
  assigns_hide name (Ok t) p g v =
      ap (λ n. answers (Ok end_turn) p (hiding n v)) (ap (λ n. insert n name t) (sym (empty-over g)) ∙ sym (insert-over empty g name t))
  assigns_hide name (Err refusal) p g v = answers_hide (Err refusal) p (λ w. w) (λ h w. refl) g v

  counted_hides : {P : Type 0} (name : List ℕ) (n : ℤ) (higher : Option ℤ) (p : P) (g : Names) (v : View Reg)
      → counted_on name n higher p (hiding g v) ≡ overlaid g (counted_on name n higher p (hiding empty v))
  counted_hides name n None p g v = answers_hide (Err (past_limit name)) p (λ w. w) (λ h w. refl) g v
  counted_hides name n (Some higher) p g v =
      answers_hide (ok_then (old_index v name) (λ old. Ok (text_turn (signed_decimal n)))) p
      (λ w. put_index w name (scalar (integer higher))) (λ h w. refl) g v

  bound_hidden : (names : Names) (ps : List Pair) (g : Names) (v : View Reg) → bound (hiding g v) names ps ≡ bound (hiding empty v) names ps
  bound_hidden names [] g v = refl
  bound_hidden names (p ∷ ps) g v =
      ap (λ r. ok_then r (λ t. bound (hiding g v) (insert names p.0 t) ps)) (evaluate_hidden g v p.1)
      ∙ ok_then_same (evaluate (hiding empty v) p.1) (λ t. bound (hiding g v) (insert names p.0 t) ps)
      (λ t. bound (hiding empty v) (insert names p.0 t) ps) (λ t. bound_hidden (insert names p.0 t) ps g v)

  included_hidden : (i : Inclusion) (e : ExpressionShape) (ps : List Pair) (g : Names) (v : View Reg)
      → included i e ps (hiding g v) ≡ included i e ps (hiding empty v)
  included_hidden i e ps g v =
      ap (λ b. ok_then (evaluate (hiding g v) e) (λ t. ok_then (partial_name t)
      (λ name. ok_then b (λ names. Ok (inclusion_turn i name names))))) (bound_hidden empty ps g v)
      ∙ ap (λ r. ok_then r (λ t. ok_then (partial_name t) (λ name. ok_then (bound (hiding empty v) empty ps)
      (λ names. Ok (inclusion_turn i name names))))) (evaluate_hidden g v e)

  tag_start_hides : (n : TagShape F) → HidesGlobals {A = ℕ} {P = Unit {0}} {Reg = Reg} (begins_with 1)
  tag_start_hides n g v = answers_hide (Ok 1) tt (λ w. w) (λ h w. refl) g v

  tag_turn_hides : (n : TagShape F) (p : ℕ) → HidesGlobals {Reg = Reg} (tag_takes m n p)
  tag_turn_hides (Assign name c) p g v =
      ap (λ r. assigns name r p (hiding g v)) (chain_hidden c g v) ∙ assigns_hide name (chain_value m c (hiding empty v)) p g v
  tag_turn_hides (Increment name) p g v =
      counted_hides name (counts_from (value_in v.index name)) (one_higher (counts_from (value_in v.index name))) p g v
  tag_turn_hides (Interrupts i) p g v = answers_hide (Ok end_turn) p (λ w. record w { interrupt = Some i }) (λ h w. refl) g v
  tag_turn_hides (Includes i e ps) p g v =
      ap (λ r. answers r p (hiding g v)) (included_hidden i e ps g v)
      ∙ answers_hide (included i e ps (hiding empty v)) p (λ w. w) (λ h w. refl) g v

  pub tags_hide : Discreet {Reg = Reg} (tag_nodes m)
  tags_hide = record { start = tag_start_hides; turn = tag_turn_hides }
