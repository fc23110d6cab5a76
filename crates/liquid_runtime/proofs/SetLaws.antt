-- Setting a name changes nothing about other names; the roots are the names that are seen.
use Rattle.std.proofs.Common.{◌≡◌, ◌≢◌, ℕ, List, Bool, true, false, cond, Option, Some, None, is_some, refl, sym, ap, ◌∙◌}
use Rattle.std.specs.Prelude.{unwrap_or, option_map, option_and_then}
use Rattle.std.specs.Option.{option_or}
use Rattle.std.specs.Ordering.{nat_cmp, is_eq}
use Rattle.std.specs.declared.cmp.Ordering.{Ordering}
use Rattle.std.specs.declared.cmp.Ordering.TheVariants.{Less, Equal, Greater}
use Rattle.std.specs.Cmp.Lexicographic.{slice_cmp, nat_list_cmp_total}
use Rattle.std.specs.Cmp.{eq_by_cmp_equiv}
use Rattle.std.specs.FinMap.{get, insert, empty, get-insert}
use Rattle.liquid_value.specs.meaning.Tree.{Tree}
use Rattle.liquid_runtime.specs.declared.leniency.Leniency.TheVariants.{Strict}
use Rattle.liquid_runtime.specs.meaning.Maps.{Names, over}
use Rattle.liquid_runtime.proofs.MapLaws.{get-over, names_apart}
use Rattle.liquid_runtime.specs.meaning.View.{View, Floor, unsealed, sealed}
use Rattle.liquid_runtime.specs.meaning.NamesSeen.{lookup, shown_globals, upper_names, floor_names, names_of_floor}
use Rattle.liquid_runtime.specs.meaning.Sets.{put_global, put_index}
use Rattle.liquid_runtime.specs.laws.Laws.{
  SetGlobalKeepsOthers,
  SetIndexKeepsOthers,
  RootsAreSeen,
  StackNamesFirst,
  GlobalFrameKeepsNames,
  GlobalsAreSeen,
  IsolatedFrameShowsItsNames,
  IsolatedFrameShowsAssigned,
  IsolatedEndsBoth,
  IsolatedKeepsOutside,
}
use Rattle.liquid_runtime.specs.meaning.Frames.{begin_index, begin_stack, begin_sandboxed, core_view}
use Rattle.liquid_runtime.proofs.Agreement.{get_agrees, lenient_get_agrees}
use Rattle.liquid_runtime.proofs.FrameLaws.{lookup_stack, lookup_global, lookup_sandboxed, lookup_isolated}
use Rattle.liquid_runtime.proofs.FrameLookups.{lookup_indexed, nothing_there, no_names, or_none}

not_tied : (o : Ordering) → (o ≡ Equal → ⊥) → is_eq o ≡ false
not_tied Less h = refl
not_tied Equal h = absurd (h refl)
not_tied Greater h = refl

-- another name has what it had
get-other : (m : Names) (name other : List ℕ) (t : Tree) → other ≢ name → get (insert m name t) other ≡ get m other
get-other m name other t apart =
    get-insert nat_list_cmp_total m name t other
    ∙ ap (λ b. cond b (Some t) (get m other)) (not_tied (slice_cmp nat_cmp other name) (λ e. apart (names_apart other name e)))

get-other-shown : (shown : Bool) (globals : Option Names) (name other : List ℕ) (t : Tree) → other ≢ name
    → get (cond shown (unwrap_or (option_map (λ names. insert names name t) globals) empty) empty) other ≡ get
    (cond shown (unwrap_or globals empty) empty) other
get-other-shown true None name other t apart = refl
get-other-shown true (Some m) name other t apart = get-other m name other t apart
get-other-shown false globals name other t apart = refl

get-other-floor : (floor : Floor) (index : Option Names) (name other : List ℕ) (t : Tree) → other ≢ name
    → get (names_of_floor (option_map (λ names. insert names name t) index) floor) other ≡ get (names_of_floor index floor) other
get-other-floor unsealed None name other t apart = refl
get-other-floor unsealed (Some m) name other t apart = get-other m name other t apart
get-other-floor (sealed names) index name other t apart = refl

is_some-same : (o : Option Tree) → is_some (option_and_then (λ t. Some t) o) ≡ is_some o
is_some-same None = refl
is_some-same (Some t) = refl

module _ {Reg : Type 0} where
  -- what a name gives, layer by layer
  pub lookup-layers : (v : View Reg) (q : List ℕ) → lookup v q ≡ option_or
      (option_or (get v.locals q) (option_or (get (shown_globals v) q) (get v.base q))) (get (floor_names v) q)
  lookup-layers v q = get-over (upper_names v) (floor_names v) q
      ∙ ap (λ o. option_or o (get (floor_names v) q)) (get-over v.locals (over (shown_globals v) v.base) q
      ∙ ap (option_or (get v.locals q)) (get-over (shown_globals v) v.base q))

  pub set_global_keeps : SetGlobalKeepsOthers Reg
  set_global_keeps v name other t apart = (
    lookup-layers (put_global v name t) other
        ∙ ap (λ o. option_or (option_or (get v.locals other) (option_or o (get v.base other))) (get (floor_names v) other))
        (get-other-shown v.shown v.globals name other t apart)
        ∙ sym (lookup-layers v other),
    refl,
  )

  pub set_index_keeps : SetIndexKeepsOthers Reg
  set_index_keeps v name other t apart = (
    lookup-layers (put_index v name t) other
        ∙ ap (option_or (option_or (get v.locals other) (option_or (get (shown_globals v) other) (get v.base other))))
        (get-other-floor v.floor v.index name other t apart)
        ∙ sym (lookup-layers v other),
    refl,
  )

  pub roots_are_seen : RootsAreSeen Reg
  roots_are_seen v set name is_names = is_some-same (lookup v name) ∙ sym (is_names name)

  pub stack_first : StackNamesFirst Reg
  stack_first names v name = lookup_stack names None v name

  pub global_keeps : GlobalFrameKeepsNames Reg
  global_keeps v name = lookup_global no_names v name ∙ ap (λ o. option_or o (lookup v name)) (nothing_there name)

  pub globals_seen : GlobalsAreSeen Reg
  globals_seen fresh depth globals name =
      global_keeps (begin_stack globals None (begin_index (core_view fresh depth))) name
      ∙ lookup_stack globals None (begin_index (core_view fresh depth)) name
      ∙ ap (option_or (get globals name)) (lookup_indexed no_names
      (record { interrupt = record { current = None }; value = fresh }) depth Strict name ∙ nothing_there name)
      ∙ or_none (get globals name)

  pub isolated_shows : IsolatedFrameShowsItsNames Reg
  isolated_shows fresh names name v q = global_keeps (begin_sandboxed fresh names name v) q ∙ lookup_sandboxed fresh names name v q

  pub isolated_assigned : IsolatedFrameShowsAssigned Reg
  isolated_assigned fresh names name v q t =
      lookup_isolated (insert empty q t) fresh names name v q
      ∙ ap (λ o. option_or o (get names q)) (get-insert nat_list_cmp_total empty q t q
      ∙ ap (λ b. cond b (Some t) (get no_names q)) ((eq_by_cmp_equiv nat_list_cmp_total).refl q))

  pub isolated_ends : IsolatedEndsBoth Reg
  isolated_ends fresh names name v w = refl

  pub isolated_keeps : IsolatedKeepsOutside Reg
  isolated_keeps names name v w d l =
      ap (λ x. record v { index = w.index; depth = x; lenient = w.lenient }) d ∙ ap (λ x. record v { index = w.index; lenient = x }) l

-- the laws of names and frames
pub ruleset laws = (
  get-over,
  get_agrees,
  lenient_get_agrees,
  roots_are_seen,
  set_global_keeps,
  set_index_keeps,
  stack_first,
  global_keeps,
  isolated_ends,
  isolated_keeps,
)
