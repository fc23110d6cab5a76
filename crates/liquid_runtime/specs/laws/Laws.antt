-- The laws of names and frames.
use Rattle.std.specs.Prelude.{◌≡◌, ◌≢◌, ℕ, List, [], ◌∷◌, Option, String, true, false, None, Some, Ok, is_some, unwrap_or}
use Rattle.std.specs.BTreeSet.{BTreeSet, contains_text}
use Rattle.std.specs.Option.{option_or}
use Rattle.std.specs.declared.alloc.Global.{Global}
use Rattle.std.specs.FinMap.{get}
use Rattle.std.specs.Result.{result_ok}
use Rattle.liquid_scalar.specs.meaning.Scalar.{text}
use Rattle.liquid_value.specs.meaning.Tree.{Tree, nil}
use Rattle.liquid_paths.specs.meaning.Walk.{Path}
use Rattle.liquid_runtime.specs.meaning.Maps.{Names, over}
use Rattle.liquid_runtime.specs.meaning.Leniency.{is_lenient}
use Rattle.liquid_runtime.specs.meaning.View.{View}
use Rattle.liquid_runtime.specs.meaning.NamesSeen.{lookup, names_seen}
use Rattle.liquid_runtime.specs.meaning.Roots.{NamesOf}
use Rattle.liquid_runtime.specs.meaning.Lookup.{try_path, found}
use Rattle.liquid_runtime.specs.meaning.Sets.{put_global, put_index}
use Rattle.liquid_runtime.specs.meaning.Frames.{
  begin_stack,
  begin_global,
  begin_sandboxed,
  begin_isolated,
  built_view,
  sandboxed_frame,
  isolated_frame,
  global_frame,
  restored_by,
  ending,
}

-- of two maps laid over one another, the left one comes first
abbrev pub LeftNamesFirst : Type 0
LeftNamesFirst = (front back : Names) (name : List ℕ) → get (over front back) name ≡ option_or (get front name) (get back name)

-- in a strict view the call that can fail gives a value exactly if the other one does, and then the same one
abbrev pub GetAgrees : Type 0 → Type 0
GetAgrees Reg = (v : View Reg) (path : Path) → is_lenient v.lenient ≡ false → result_ok (found v path) ≡ try_path v path

-- in a lenient one it always gives a value: that of the other one, or nil if that gives none
abbrev pub LenientGetAgrees : Type 0 → Type 0
LenientGetAgrees Reg = (v : View Reg) (path : Path) → is_lenient v.lenient ≡ true → found v path ≡ Ok (unwrap_or (try_path v path) nil)

-- a path of one text has a value exactly if that text is in the set of the names that are seen
abbrev pub RootsAreSeen : Type 0 → Type 0
RootsAreSeen Reg =
    (v : View Reg) (set : BTreeSet (String Global)) (name : List ℕ) → NamesOf (names_seen v) set
    → is_some (try_path v (text name ∷ [])) ≡ contains_text set name

-- setting a global changes no lookup of another name and no index variable
abbrev pub SetGlobalKeepsOthers : Type 0 → Type 0
SetGlobalKeepsOthers Reg =
    (v : View Reg) (name other : List ℕ) (t : Tree) → other ≢ name → (lookup (put_global v name t) other ≡ lookup v other)
    × ((put_global v name t).index ≡ v.index)

-- setting an index variable changes no global and no lookup of another name
abbrev pub SetIndexKeepsOthers : Type 0 → Type 0
SetIndexKeepsOthers Reg =
    (v : View Reg) (name other : List ℕ) (t : Tree) → other ≢ name → (lookup (put_index v name t) other ≡ lookup v other)
    × ((put_index v name t).globals ≡ v.globals)

-- in a stack frame a name has its value in the frame's data, otherwise the value that it has below
abbrev pub StackNamesFirst : Type 0 → Type 0
StackNamesFirst Reg =
    (names : Names) (v : View Reg) (name : List ℕ) → lookup (begin_stack names None v) name ≡ option_or (get names name) (lookup v name)

-- a new global frame hides no name and adds none
abbrev pub GlobalFrameKeepsNames : Type 0 → Type 0
GlobalFrameKeepsNames Reg = (v : View Reg) (name : List ℕ) → lookup (begin_global v) name ≡ lookup v name

-- a new isolated frame shows only its own names
abbrev pub IsolatedFrameShowsItsNames : Type 0 → Type 0
IsolatedFrameShowsItsNames Reg =
    (fresh : Reg) (names : Names) (name : Option (List ℕ)) (v : View Reg) (q : List ℕ)
    → lookup (begin_isolated fresh names name v) q ≡ get names q

-- what is assigned in it is seen there
abbrev pub IsolatedFrameShowsAssigned : Type 0 → Type 0
IsolatedFrameShowsAssigned Reg =
    (fresh : Reg) (names : Names) (name : Option (List ℕ)) (v : View Reg) (q : List ℕ) (t : Tree)
    → lookup (put_global (begin_isolated fresh names name v) q t) q ≡ Some t

-- it ends as a global frame inside a sandboxed one does
abbrev pub IsolatedEndsBoth : Type 0 → Type 0
IsolatedEndsBoth Reg =
    (fresh : Reg) (names : Names) (name : Option (List ℕ)) (v w : View Reg) →
    ending (restored_by (isolated_frame names name) v) w
    ≡ ending (restored_by (sandboxed_frame names name) v) (ending (restored_by global_frame (begin_sandboxed fresh names name v)) w)

-- so in the view below it, only index variables may change: no call changes depth and leniency
abbrev pub IsolatedKeepsOutside : Type 0 → Type 0
IsolatedKeepsOutside Reg =
    (names : Names) (name : Option (List ℕ)) (v w : View Reg) → w.depth ≡ v.depth → w.lenient ≡ v.lenient →
    ending (restored_by (isolated_frame names name) v) w ≡ record v { index = w.index }

-- a built runtime has the caller's globals and no other name
abbrev pub GlobalsAreSeen : Type 0 → Type 0
GlobalsAreSeen Reg =
    (fresh : Reg) (depth : ℕ) (globals : Names) (name : List ℕ) → lookup (built_view fresh depth globals) name ≡ get globals name
