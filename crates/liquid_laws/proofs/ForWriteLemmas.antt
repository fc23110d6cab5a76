-- A `for` writes the texts of its bodies.
use Rattle.std.proofs.Common.{◌≡◌, ℕ, ◌+◌, List, [], ◌∷◌, ◌++◌, length, Bool, true, false, cond, refl, sym, ap, ◌∙◌, subst}
use Rattle.std.specs.List.{concat}
use Rattle.liquid_value.specs.meaning.Tree.{Tree}
use Rattle.liquid_runtime.specs.meaning.View.{View}
use Rattle.liquid_plugins.specs.meaning.Chain.{FilterMeaning}
use Rattle.liquid_template.specs.meaning.Actions.{and_then, asks, done}
use Rattle.liquid_template.specs.meaning.Nodes.{run_parts}
use Rattle.liquid_template.specs.meaning.Partials.{partials_at}
use Rattle.liquid_template.specs.meaning.Run.{Action, Run}
use Rattle.liquid_template.specs.meaning.Runs.{part_run}
use Rattle.liquid_tags.specs.laws.LoopRuns.{after_body, cleared, item_run, leaves}
use Rattle.liquid_std.specs.meaning.marks.Held.{MarksIn}
use Rattle.liquid_std.specs.meaning.Standard.{standard}
use Rattle.liquid_laws.specs.laws.loops.ForLoops.{ForRuns, ForWrites}
use Rattle.liquid_laws.specs.laws.loops.Bodies.{Bodies, no_more, leaves_off, goes_on}
use Rattle.liquid_laws.specs.meaning.loops.Ends.{Ends}
use Rattle.liquid_laws.specs.laws.loops.ForRuns.{for_run}
use Rattle.liquid_laws.proofs.EndsLemmas.{asks_ends, then_ends}
use Rattle.liquid_laws.proofs.ForRunLemmas.{for_played}

module _ {Reg : Type 0} (fresh : Reg) (name : List ℕ) (size : ℕ) (body : Action Reg) where
  abbrev item_at : ℕ → Tree → Action Reg
  item_at = item_run fresh name size body

  abbrev rest_at : ℕ → List Tree → Action Reg
  rest_at = after_body fresh name size body

  -- a loop that has been left writes nothing more
  left_ends : (place : ℕ) (ts : List Tree) (w : View Reg) → leaves w.interrupt ≡ true → Ends (rest_at place ts w) [] (cleared w)
  left_ends place [] w is = (refl, refl, refl)
  left_ends place (t ∷ ts) w is =
      subst (λ (b : Bool). Ends (and_then (asks w) (λ x. cond b (done (cleared w))
      (and_then (item_at place t (cleared w)) (rest_at (place + 1) ts)))) [] (cleared w)) (sym is) (refl, refl, refl)

  -- the next item after a body that has not left the loop
  next_ends : (place : ℕ) (t : Tree) (ts : List Tree) (u v w x : View Reg) (text later : List ℕ) → v ≡ cleared u
      → leaves u.interrupt ≡ false → Ends (item_at place t v) text w → Ends (rest_at (place + 1) ts w) later x
      → Ends (rest_at place (t ∷ ts) u) (text ++ later) x
  next_ends place t ts u v w x text later is stays first second =
      subst (λ (b : Bool). Ends (and_then (asks u) (λ y. cond b (done (cleared u))
      (and_then (item_at place t (cleared u)) (rest_at (place + 1) ts)))) (text ++ later) x) (sym stays)
      (then_ends (asks u) (λ y. and_then (item_at place t (cleared u)) (rest_at (place + 1) ts)) u x [] (text ++ later) (asks_ends u)
      (then_ends (item_at place t (cleared u)) (rest_at (place + 1) ts) w x text later
      (subst (λ z. Ends (item_at place t z) text w) is first) second))

  after_ends : (place : ℕ) (ts : List Tree) (v w : View Reg) (texts : List (List ℕ)) → Bodies item_at place ts v texts w
      → (u : View Reg) → v ≡ cleared u → leaves u.interrupt ≡ false → Ends (rest_at place ts u) (concat texts) w
  after_ends place ts v w texts (no_more p x) u is stays = (refl, refl, sym is)
  after_ends place ts v w texts (leaves_off p t rest x y text ends leave) u is stays =
      next_ends p t rest u x y (cleared y) text [] is stays ends (left_ends (p + 1) rest y leave)
  after_ends place ts v w texts (goes_on p t rest x y z text later ends stay bodies) u is stays =
      next_ends p t rest u x y z text (concat later) is stays ends (after_ends (p + 1) rest (cleared y) z later bodies y refl stay)

  -- the items from the first one on
  abbrev begun : ℕ → List Tree → Action Reg
  begun place [] v = done v
  begun place (t ∷ ts) v = and_then (asks v) (λ w. and_then (item_at place t w) (rest_at (place + 1) ts))

  first_ends : (place : ℕ) (t : Tree) (ts : List Tree) (v w x : View Reg) (text later : List ℕ) → Ends (item_at place t v) text w
      → Ends (rest_at (place + 1) ts w) later x → Ends (begun place (t ∷ ts) v) (text ++ later) x
  first_ends place t ts v w x text later first second =
      then_ends (asks v) (λ y. and_then (item_at place t y) (rest_at (place + 1) ts)) v x [] (text ++ later) (asks_ends v)
      (then_ends (item_at place t v) (rest_at (place + 1) ts) w x text later first second)

  pub begun_ends : (place : ℕ) (ts : List Tree) (v w : View Reg) (texts : List (List ℕ)) → Bodies item_at place ts v texts w
      → Ends (begun place ts v) (concat texts) w
  begun_ends place ts v w texts (no_more p x) = (refl, refl, refl)
  begun_ends place ts v w texts (leaves_off p t rest x y text ends leave) =
      first_ends p t rest x y (cleared y) text [] ends (left_ends (p + 1) rest y leave)
  begun_ends place ts v w texts (goes_on p t rest x y z text later ends stay bodies) =
      first_ends p t rest x y z text (concat later) ends (after_ends (p + 1) rest (cleared y) z later bodies y refl stay)

module _ {Reg F : Type 0} (held : MarksIn Reg) (fresh : Reg) (m : FilterMeaning F) where
  pub for_runs : ForRuns held fresh m
  for_runs finds depth over l ps =
      let s = standard held fresh m finds in
      for_played s (partials_at s depth) held over l (run_parts s (partials_at s depth) ps)

  pub for_writes : ForWrites held fresh m
  for_writes finds depth over l ps t ts v w texts items bodies =
      let s = standard held fresh m finds in
      let body = part_run s depth ps 0 in
      subst (λ (r : Run Reg). Ends r (concat texts) w)
      (sym (for_runs finds depth over l ps v ∙ ap (λ r. for_run fresh l.name body (part_run s depth ps 1) r v) items))
      (begun_ends fresh l.name (length (t ∷ ts)) body 0 (t ∷ ts) v w texts bodies)
