-- The value of an expression if each value on the way exists.
use Rattle.std.proofs.Common.{◌≡◌, ℕ, List, ◌∷◌, Option, Some, None, Ok, refl, ap, ◌∙◌, option_map, [], inr}
use Rattle.std.specs.Prelude.{option_and_then}
use Rattle.std.proofs.lemmas.Option.{option_and_then_some, none-some}
use Rattle.liquid_scalar.specs.meaning.Scalar.{Scal, render_scalar, text}
use Rattle.liquid_value.specs.meaning.Tree.{Tree, scalar}
use Rattle.liquid_value.specs.meaning.Parts.{as_scalar}
use Rattle.std.specs.Option.{option_or}
use Rattle.liquid_value.specs.meaning.Members.{get_member, member_count}
use Rattle.liquid_value.specs.meaning.View.{view}
use Rattle.liquid_value.specs.declared.value.Value.{Value}
use Rattle.liquid_value.specs.declared.cow.ValueCow.TheVariants.{Owned}
use Rattle.liquid_runtime.specs.meaning.LoopNames.{forloop, forloop_members}
use Rattle.liquid_runtime.specs.meaning.Made.{OfLoop, InPlaceOrMade}
use Rattle.liquid_paths.specs.meaning.Step.{step, size_asked}
use Rattle.liquid_paths.specs.meaning.Walk.{Path, walk}
use Rattle.liquid_runtime.specs.meaning.View.{View}
use Rattle.liquid_runtime.specs.meaning.NamesSeen.{lookup}
use Rattle.liquid_runtime.specs.meaning.Lookup.{try_path}
use Rattle.liquid_plugins.specs.meaning.Expression.{ExpressionShape, literal, variable, Indexes, no_indexes, index, as_literal}
use Rattle.liquid_plugins.specs.meaning.Evaluation.{evaluate, try_evaluate, try_path_of}
use Rattle.liquid_plugins.specs.steps.LiteralWalk.{literal_part, literal_walk}
use Rattle.liquid_plugins.proofs.Agreement.{evaluate_gives}

-- where a path leads from a value, if the path is known
abbrev pub from_here : Tree → Option Path → Option Tree
from_here t o = option_and_then (λ path. walk t path) o

stepped : (t next : Tree) (s : Scal) (o : Option Path) → step t s ≡ Some next
    → from_here t (option_map (λ path. s ∷ path) o) ≡ from_here next o
stepped t next s None h = refl
stepped t next s (Some path) h = ap (option_and_then (λ u. walk u path)) h

module _ {Reg : Type 0} where
  -- the call that can fail gives the value that is known to exist
  pub borrowed_value : (v : View Reg) (e : ExpressionShape) (t : Tree) → try_evaluate v e ≡ Some t → evaluate v e ≡ Ok t
  borrowed_value v e t h = evaluate_gives v e t h

  named : (v : View Reg) (name : Scal) (t : Tree) (o : Option Path) → lookup v (render_scalar name) ≡ Some t
      → option_and_then (try_path v) (option_map (λ path. name ∷ path) o) ≡ from_here t o
  named v name t None h = refl
  named v name t (Some path) h = ap (option_and_then (λ u. walk u path)) h

  -- a variable leads from the value of its name
  pub begins_at : (v : View Reg) (name : Scal) (is : Indexes) (t : Tree) → lookup v (render_scalar name) ≡ Some t
      → try_evaluate v (variable name is) ≡ from_here t (try_path_of v is)
  begins_at v name is t h = named v name t (try_path_of v is) h

  -- a name alone gives the value that it has
  pub borrowed_name : (v : View Reg) (name : List ℕ) (t : Tree) → lookup v name ≡ Some t
      → evaluate v (variable (text name) no_indexes) ≡ Ok t
  borrowed_name v name t h = borrowed_value v (variable (text name) no_indexes) t (begins_at v (text name) no_indexes t h)

  -- an index that is known to be a scalar leads one step further
  pub goes_on : (v : View Reg) (t next i : Tree) (s : Scal) (e : ExpressionShape) (es : Indexes) → try_evaluate v e ≡ Some i → i ≡ scalar s
      → step t s ≡ Some next → from_here t (try_path_of v (index e es)) ≡ from_here next (try_path_of v es)
  goes_on v t next i s e es h j k =
      ap (λ o. from_here t (option_and_then (λ u. option_and_then (λ x. option_map (λ path. x ∷ path) (try_path_of v es)) (as_scalar u)) o))
      (h ∙ ap Some j)
      ∙ stepped t next s (try_path_of v es) k

  comes_to : (v : View Reg) (e : ExpressionShape) (i : Tree) → as_literal e ≡ Some i → try_evaluate v e ≡ Some i
  comes_to v (literal t) i h = h
  comes_to v (variable name is) i h = absurd (none-some i h)

  leads_on : (v : View Reg) (t i next : Tree) (s : Scal) (e : ExpressionShape) (es : Indexes) → try_evaluate v e ≡ Some i
      → as_scalar i ≡ Some s → step t s ≡ Some next → from_here t (try_path_of v (index e es)) ≡ from_here next (try_path_of v es)
  leads_on v t i next s e es h j k =
      ap (λ o. from_here t (option_and_then (λ u. option_and_then (λ x. option_map (λ path. x ∷ path) (try_path_of v es)) (as_scalar u)) o))
      h
      ∙ ap (λ o. from_here t (option_and_then (λ x. option_map (λ path. x ∷ path) (try_path_of v es)) o)) j
      ∙ stepped t next s (try_path_of v es) k

  first_leads : (v : View Reg) (t next : Tree) (e : ExpressionShape) (es : Indexes) → literal_part t e ≡ Some next
      → from_here t (try_path_of v (index e es)) ≡ from_here next (try_path_of v es)
  first_leads v t next e es h =
      option_and_then_some (λ i. option_and_then (λ x. step t x) (as_scalar i)) (as_literal e) next h (λ i is_literal at_index.
      option_and_then_some (λ x. step t x) (as_scalar i) next at_index (λ s is_scalar at_part.
      leads_on v t i next s e es (comes_to v e i is_literal) is_scalar at_part))

  -- literal indexes lead to the same value in every view
  pub literals_lead : (v : View Reg) (t u : Tree) (es : Indexes) → literal_walk t es ≡ Some u
      → option_and_then (λ path. walk t path) (try_path_of v es) ≡ Some u
  literals_lead v t u no_indexes h = h
  literals_lead v t u (index e es) h =
      option_and_then_some (λ part. literal_walk part es) (literal_part t e) u h (λ part is_part on.
      first_leads v t part e es is_part ∙ literals_lead v part u es on)

-- a member of an object `forloop`
pub member_walks : (place size : ℕ) (word : List ℕ) (t : Tree) → get_member word (forloop_members place size) ≡ Some t
    → literal_walk (forloop place size) (index (literal (scalar (text word))) no_indexes) ≡ Some t
member_walks place size word t is =
    ap (λ o. option_and_then (λ part. literal_walk part no_indexes)
    (option_or o (size_asked word (member_count (forloop_members place size))))) is

pub member_made : (place size : ℕ) (word : List ℕ) (t : Tree) → get_member word (forloop_members place size) ≡ Some t → OfLoop t
member_made place size word t is = (
  place,
  size,
  text word ∷ [],
  ap
      (λ o. option_and_then (λ u. walk u []) (option_or o (size_asked word (member_count (forloop_members place size))))) is,
)

pub made_of_loop : (value : Value) → OfLoop (view value) → InPlaceOrMade (Owned value)
made_of_loop value is = inr is

pub ruleset member_leads = (member_walks, member_made)
