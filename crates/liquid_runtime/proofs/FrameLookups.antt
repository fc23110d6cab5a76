-- What the calls of frames return.
use Rattle.std.proofs.Common.{◌≡◌, ℕ, List, Bool, false, ◌&&◌, Option, None, Some, refl, sym, ap, ◌∙◌}
use Rattle.std.specs.Prelude.{Result, Ok, Err, IfOk, String, string_bytes, is_none, is_some, ◌||◌}
use Rattle.std.specs.Option.{option_or}
use Rattle.std.specs.Ordering.{nat_cmp, is_eq}
use Rattle.std.specs.List.{list_any}
use Rattle.std.specs.Cmp.Lexicographic.{slice_cmp}
use Rattle.std.specs.BTreeSet.{BTreeSet, IsEmpty}
use Rattle.std.specs.FinMap.{get, empty, get-empty}
use Rattle.std.specs.declared.alloc.Global.{Global}
use Rattle.liquid_value.specs.meaning.Tree.{Tree}
use Rattle.liquid_runtime.specs.meaning.Maps.{Names, over}
use Rattle.liquid_runtime.proofs.MapLaws.{empty-over}
use Rattle.liquid_runtime.specs.meaning.View.{View}
use Rattle.liquid_runtime.specs.meaning.Roots.{NamesOf, NamesOver}
use Rattle.liquid_runtime.specs.meaning.NamesSeen.{lookup, names_seen}
use Rattle.liquid_runtime.specs.meaning.Frames.{begin_stack}
use Rattle.liquid_runtime.specs.steps.FrameViews.{core_with, indexed_view, assigned_view, sandboxed_with}
use Rattle.liquid_runtime.specs.declared.leniency.Leniency.{Leniency}
use Rattle.liquid_runtime.specs.declared.registers.Registers.{Registers}
use Rattle.liquid_runtime.proofs.FrameLaws.{lookup_stack, lookup_global, lookup_sandboxed, seal_stack, seal_global, seal_sandboxed}
use Rattle.liquid_runtime.proofs.Objects.{changed_objects}
use Rattle.std.proofs.Math.Bool.{or-false}

abbrev pub no_names : Names
no_names = empty

pub nothing_there : (q : List ℕ) → get no_names q ≡ None
nothing_there q = get-empty (slice_cmp nat_cmp) q

pub own_value : (a b : Option Tree) (x : Tree) → Some x ≡ a → option_or a b ≡ Some x
own_value a b x e = ap (λ o. option_or o b) (sym e)

pub value_below : (a b : Option Tree) → None ≡ a → option_or a b ≡ b
value_below a b e = ap (λ o. option_or o b) (sym e)

abbrev at_name : List ℕ → String Global → Bool
at_name q k = is_eq (slice_cmp nat_cmp q (string_bytes k))

pub or_none : (a : Option Tree) → option_or a None ≡ a
or_none None = refl
or_none (Some x) = refl

pub seal_own : (a : Option Tree) (b : Bool) (x : Tree) → Some x ≡ a → (is_none a && b) ≡ false
seal_own a b x e = ap (λ o. is_none o && b) (sym e)

pub seal_below : (a : Option Tree) (b : Bool) → None ≡ a → (is_none a && b) ≡ b
seal_below a b e = ap (λ o. is_none o && b) (sym e)

pub ruleset own_first = (own_value, value_below, seal_own, seal_below)

pub some-either : (a b : Option Tree) → (is_some a || is_some b) ≡ is_some (option_or a b)
some-either None b = refl
some-either (Some x) b = refl

pub names_alone : (m : Names) (below set : BTreeSet (String Global)) → NamesOver m below set → IsEmpty below → NamesOf m set
names_alone m below set is none q = is q ∙ ap (λ ks. is_some (get m q) || list_any (at_name q) ks) none ∙ or-false (is_some (get m q))

pub if_ok : {A E : Type 0} (o : Result A E) (P Q : A → Type 0) → ((x : A) → P x → Q x) → IfOk o P → IfOk o Q
if_ok (Ok x) P Q f h = f x h
if_ok (Err e) P Q f h = h

names_either : (m n k : Names) (below set : BTreeSet (String Global)) → ((q : List ℕ) → get k q ≡ option_or (get m q) (get n q))
    → NamesOver m below set → NamesOf n below → NamesOf k set
names_either m n k below set is over of q =
    over q ∙ ap (λ b. is_some (get m q) || b) (of q) ∙ some-either (get m q) (get n q) ∙ ap is_some (sym (is q))

module _ {Reg : Type 0} where
  pub lookup_core : (r : Registers Reg) (depth : ℕ) (lenient : Leniency) (q : List ℕ) → lookup (core_with r depth lenient) q ≡ None
  lookup_core r depth lenient q =
      ap (λ m. get (over m no_names) q) (empty-over (over no_names no_names) ∙ empty-over no_names)
      ∙ ap (λ m. get m q) (empty-over no_names) ∙ nothing_there q

  pub lookup_indexed : (variables : Names) (r : Registers Reg) (depth : ℕ) (lenient : Leniency) (q : List ℕ)
      → lookup (indexed_view variables (core_with r depth lenient)) q ≡ get variables q
  lookup_indexed variables r depth lenient q =
      ap (λ m. get (over m variables) q) (empty-over (over no_names no_names) ∙ empty-over no_names)
      ∙ ap (λ m. get m q) (empty-over variables)

  pub roots_core : (r : Registers Reg) (depth : ℕ) (lenient : Leniency) (set : BTreeSet (String Global)) → IsEmpty set
      → NamesOf (names_seen (core_with r depth lenient)) set
  roots_core r depth lenient set none q = ap (λ ks. list_any (at_name q) ks) none ∙ ap is_some (sym (lookup_core r depth lenient q))

  pub roots_indexed : (variables : Names) (r : Registers Reg) (depth : ℕ) (lenient : Leniency) (below set : BTreeSet (String Global))
      → NamesOver variables below set → NamesOf (names_seen (core_with r depth lenient)) below
      → NamesOf (names_seen (indexed_view variables (core_with r depth lenient))) set
  roots_indexed variables r depth lenient below set is of =
      names_either variables (names_seen (core_with r depth lenient))
      (names_seen (indexed_view variables (core_with r depth lenient))) below set
      (λ q. lookup_indexed variables r depth lenient q ∙ sym (or_none (get variables q))
      ∙ ap (option_or (get variables q)) (sym (lookup_core r depth lenient q))) is of

  pub roots_stack : (names : Names) (name : Option (List ℕ)) (v : View Reg) (below set : BTreeSet (String Global))
      → NamesOver names below set → NamesOf (names_seen v) below → NamesOf (names_seen (begin_stack names name v)) set
  roots_stack names name v below set is of =
      names_either names (names_seen v) (names_seen (begin_stack names name v)) below set (lookup_stack names name v) is of

  pub roots_global : (assigned : Names) (v : View Reg) (below set : BTreeSet (String Global)) → NamesOver assigned below set
      → NamesOf (names_seen v) below → NamesOf (names_seen (assigned_view assigned v)) set
  roots_global assigned v below set is of =
      names_either assigned (names_seen v) (names_seen (assigned_view assigned v)) below set (lookup_global assigned v) is of

  pub roots_sandboxed : (r : Registers Reg) (names : Names) (name : Option (List ℕ)) (v : View Reg) (below set : BTreeSet (String Global))
      → NamesOver names below set → IsEmpty below → NamesOf (names_seen (sandboxed_with r names name v)) set
  roots_sandboxed r names name v below set is none q =
      is q ∙ ap (λ ks. is_some (get names q) || list_any (at_name q) ks) none ∙ or-false (is_some (get names q))
      ∙ ap is_some (sym (lookup_sandboxed r.value names name v q))

pub ruleset frame_lookups = (
  seal_own,
  seal_below,
  roots_core,
  roots_indexed,
  roots_stack,
  roots_global,
  roots_sandboxed,
  nothing_there,
  own_value,
  value_below,
  lookup_core,
  lookup_indexed,
  lookup_stack,
  lookup_global,
  lookup_sandboxed,
  seal_stack,
  seal_global,
  seal_sandboxed,
  changed_objects,
)
