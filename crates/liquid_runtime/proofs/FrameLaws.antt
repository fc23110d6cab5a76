-- What a name gives under each frame, and whether it comes from a sealed floor.
use Rattle.std.proofs.Common.{◌≡◌, ℕ, List, Bool, true, false, ◌&&◌, Option, None, Some, refl, ap, ◌∙◌}
use Rattle.std.specs.Prelude.{is_none}
use Rattle.std.specs.Option.{option_or}
use Rattle.std.specs.Ordering.{nat_cmp}
use Rattle.std.specs.Cmp.Lexicographic.{slice_cmp}
use Rattle.std.specs.FinMap.{get, empty, get-empty}
use Rattle.liquid_value.specs.meaning.Tree.{Tree}
use Rattle.liquid_runtime.specs.meaning.Maps.{Names, over}
use Rattle.liquid_runtime.proofs.MapLaws.{get-over, empty-over, over-over}
use Rattle.liquid_runtime.specs.meaning.View.{View}
use Rattle.liquid_runtime.specs.meaning.NamesSeen.{lookup, upper_names, floor_names, names_seen, is_sealed, comes_from_seal}
use Rattle.liquid_runtime.specs.meaning.Frames.{begin_stack, begin_sandboxed}
use Rattle.liquid_runtime.specs.steps.FrameViews.{assigned_view}
use Rattle.std.proofs.Math.Bool.{and-true}

none_of_two : (sealed : Bool) (a b : Option Tree) → sealed && is_none (option_or a b) ≡ is_none a && (sealed && is_none b)
none_of_two true None b = refl
none_of_two true (Some t) b = refl
none_of_two false None b = refl
none_of_two false (Some t) b = refl

module _ {Reg : Type 0} where
  upper_stack : (names : Names) (name : Option (List ℕ)) (v : View Reg)
      → upper_names (begin_stack names name v) ≡ over names (upper_names v)
  upper_stack names name v = over-over names v.locals _

  pub lookup_stack : (names : Names) (name : Option (List ℕ)) (v : View Reg) (q : List ℕ)
      → lookup (begin_stack names name v) q ≡ option_or (get names q) (lookup v q)
  lookup_stack names name v q =
      ap (λ m. get (over m (floor_names v)) q) (upper_stack names name v)
      ∙ ap (λ m. get m q) (over-over names (upper_names v) (floor_names v))
      ∙ get-over names (names_seen v) q

  pub seal_stack : (names : Names) (name : Option (List ℕ)) (v : View Reg) (q : List ℕ)
      → comes_from_seal (begin_stack names name v) q ≡ is_none (get names q) && comes_from_seal v q
  seal_stack names name v q =
      ap (λ m. is_sealed v.floor && is_none (get m q)) (upper_stack names name v)
      ∙ ap (λ o. is_sealed v.floor && is_none o) (get-over names (upper_names v) q)
      ∙ none_of_two (is_sealed v.floor) (get names q) (get (upper_names v) q)

  pub lookup_global : (assigned : Names) (v : View Reg) (q : List ℕ)
      → lookup (assigned_view assigned v) q ≡ option_or (get assigned q) (lookup v q)
  lookup_global assigned v q =
      ap (λ m. get (over m (floor_names v)) q) (empty-over (over assigned (upper_names v)))
      ∙ ap (λ m. get m q) (over-over assigned (upper_names v) (floor_names v))
      ∙ get-over assigned (names_seen v) q

  pub seal_global : (assigned : Names) (v : View Reg) (q : List ℕ) → comes_from_seal (assigned_view assigned v) q ≡ is_none (get assigned q)
      && comes_from_seal v q
  seal_global assigned v q =
      ap (λ m. is_sealed v.floor && is_none (get m q)) (empty-over (over assigned (upper_names v)))
      ∙ ap (λ o. is_sealed v.floor && is_none o) (get-over assigned (upper_names v) q)
      ∙ none_of_two (is_sealed v.floor) (get assigned q) (get (upper_names v) q)

  pub lookup_sandboxed : (fresh : Reg) (names : Names) (name : Option (List ℕ)) (v : View Reg) (q : List ℕ)
      → lookup (begin_sandboxed fresh names name v) q ≡ get names q
  lookup_sandboxed fresh names name v q =
      ap (λ m. get (over m names) q) (empty-over (over empty empty) ∙ empty-over empty) ∙ ap (λ m. get m q) (empty-over names)

  pub seal_sandboxed : (fresh : Reg) (names : Names) (name : Option (List ℕ)) (v : View Reg) (q : List ℕ)
      → comes_from_seal (begin_sandboxed fresh names name v) q ≡ true
  seal_sandboxed fresh names name v q =
      ap (λ m. is_none (get m q)) (empty-over (over empty empty) ∙ empty-over empty) ∙ ap is_none (get-empty (slice_cmp nat_cmp) q)

  -- a global frame inside a sandboxed one
  pub lookup_isolated : (assigned : Names) (fresh : Reg) (names : Names) (name : Option (List ℕ)) (v : View Reg) (q : List ℕ)
      → lookup (assigned_view assigned (begin_sandboxed fresh names name v)) q ≡ option_or (get assigned q) (get names q)
  lookup_isolated assigned fresh names name v q =
      lookup_global assigned (begin_sandboxed fresh names name v) q
      ∙ ap (option_or (get assigned q)) (lookup_sandboxed fresh names name v q)

  pub seal_isolated : (assigned : Names) (fresh : Reg) (names : Names) (name : Option (List ℕ)) (v : View Reg) (q : List ℕ)
      → comes_from_seal (assigned_view assigned (begin_sandboxed fresh names name v)) q ≡ is_none (get assigned q)
  seal_isolated assigned fresh names name v q =
      seal_global assigned (begin_sandboxed fresh names name v) q ∙ ap (λ b. is_none (get assigned q) && b)
      (seal_sandboxed fresh names name v q) ∙ and-true (is_none (get assigned q))

-- what an implementation of a frame needs
pub ruleset frame_laws = (lookup_stack, lookup_global, lookup_sandboxed, seal_stack, seal_global, seal_sandboxed)
