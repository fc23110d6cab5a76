-- What the cycle owes while it continues with the turns of a node.
use Rattle.std.specs.Prelude.{
  ◌≡◌,
  Bool,
  true,
  false,
  is_ok,
  ℕ,
  suc,
  ◌-◌,
  ◌<◌,
  ◌≤◌,
  List,
  [],
  ◌∷◌,
  Option,
  None,
  Some,
  Result,
  Ok,
  Err,
  IsOk,
  IsErrAnd,
  IfSome,
}
use Rattle.liquid_error.specs.declared.error.Error.{Error}
use Rattle.liquid_error.specs.meaning.Told.{told}
use Rattle.liquid_error.specs.meaning.Helpers.{ErrBecomes}
use Rattle.liquid_runtime.specs.meaning.View.{View}
use Rattle.liquid_runtime.specs.meaning.Frames.{FrameShape, Restore, beginning, restored_by}
use Rattle.liquid_runtime.specs.meaning.OpenFrames.{EndsFirst}
use Rattle.liquid_plugins.specs.meaning.Turns.{NodeMeaning}
use Rattle.liquid_plugins.specs.meaning.Nodes.{Nodes}
use Rattle.liquid_plugins.specs.meaning.Size.{size_nodes}
use Rattle.liquid_template.specs.declared.turn.Step.{Step}
use Rattle.liquid_template.specs.declared.turn.Step.TheVariants as step
use Rattle.liquid_template.specs.meaning.Run.{Action, written}
use Rattle.liquid_template.specs.meaning.Actions.{refuses, under, part_at, silent, refused_through}
use Rattle.liquid_template.specs.meaning.Nodes.{Setting, turns}
use Rattle.liquid_template.specs.meaning.Partials.{partials_at}
use Rattle.liquid_template.specs.meaning.Rendering.{nodes_run}
use Rattle.liquid_template.specs.meaning.Output.{Output}
use Rattle.liquid_template.specs.meaning.Outcome.{RendersWithin}
use Rattle.liquid_template.specs.meaning.TemplateOf.{template_nodes}
use Rattle.liquid_template.specs.steps.NodeTurns.{Answer}

module _ {Reg F T P B Q : Type 0} (s : Setting Reg F T P B Q) (depth : ℕ) where
  module _ {N R : Type 0} (m : NodeMeaning N R Reg) (n : N) (p q : R) (v w : View Reg) (b c : Output) where
    -- the turn was the last one
    abbrev pub Ends : Answer → Type 0
    Ends answer = (parts : List (Action Reg)) → (k : ℕ) → RendersWithin (turns s (partials_at s depth) m n parts (suc k) p v) v b c w answer

    -- the turn is done, and the others follow
    abbrev pub Goes : Type 0
    Goes = (parts : List (Action Reg)) → (k : ℕ) → (a : Output) → (x : View Reg) → (answer : Answer)
        → RendersWithin (turns s (partials_at s depth) m n parts k q w) w c a x answer
        → RendersWithin (turns s (partials_at s depth) m n parts (suc k) p v) v b a x answer

    -- the turn's frame is open: what is rendered under it, and then the others, are the turns
    pub record Opens (trace : Option (List ℕ)) (inner : List (Action Reg) → Action Reg) (rs rs1 : List (Restore Reg)) : Type 0 where
      pub frame : FrameShape
      pub from : View Reg
      pub opens : w ≡ beginning s.fresh frame from
      pub owes : rs1 ≡ restored_by frame from ∷ rs
      pub goes : (parts : List (Action Reg)) → (k : ℕ) → (d a : Output) → (x y : View Reg) → (u : Unit {0}) → (answer : Answer)
          → RendersWithin (under s.fresh frame trace (inner parts) from) from c d x (Ok u)
          → RendersWithin (turns s (partials_at s depth) m n parts k q x) x d a y answer
          → RendersWithin (turns s (partials_at s depth) m n parts (suc k) p v) v b a y answer
      pub fails : (parts : List (Action Reg)) → (k : ℕ) → (d : Output) → (x : View Reg) → (e : Error)
          → RendersWithin (under s.fresh frame trace (inner parts) from) from c d x (Err e)
          → RendersWithin (turns s (partials_at s depth) m n parts (suc k) p v) v b d x (Err e)

    -- the turn's frame is open: nothing of what is rendered under it is written, and the node is given its text
    pub record Captures (trace : Option (List ℕ)) (inner : List (Action Reg) → Action Reg) (rs rs1 : List (Restore Reg)) : Type 0 where
      pub frame : FrameShape
      pub from : View Reg
      pub opens : w ≡ beginning s.fresh frame from
      pub owes : rs1 ≡ restored_by frame from ∷ rs
      pub goes : (parts : List (Action Reg)) → (k : ℕ) → (d a : Output) → (x y : View Reg) → (u : Unit {0}) → (answer : Answer)
          → RendersWithin (silent (under s.fresh frame trace (inner parts) from)) from c d x (Ok u)
          → RendersWithin (turns s (partials_at s depth) m n parts k (m.catches n q
          (written (under s.fresh frame trace (inner parts) from))) x) x d a y answer
          → RendersWithin (turns s (partials_at s depth) m n parts (suc k) p v) v b a y answer
      pub fails : (parts : List (Action Reg)) → (k : ℕ) → (d : Output) → (x : View Reg) → (e : Error)
          → RendersWithin (silent (under s.fresh frame trace (inner parts) from)) from c d x (Err e)
          → RendersWithin (turns s (partials_at s depth) m n parts (suc k) p v) v b d x (Err e)

    -- the result of a turn, by what it has to render
    abbrev pub Turned : {X A C : Type 0} → (X → F) → (A → T) → (C → B) → Option (List ℕ) → List (Restore Reg) → List (Restore Reg)
        → Answer → Step X A C → Type 0
    Turned filter tag block trace rs rs1 answer step.Stop = Ends answer × (rs1 ≡ rs)
    Turned filter tag block trace rs rs1 answer step.Next = Goes × IsOk answer × (rs1 ≡ rs)
    Turned filter tag block trace rs rs1 answer (step.Part place) = Opens trace (λ parts. part_at parts place) rs rs1 × IsOk answer
    Turned filter tag block trace rs rs1 answer (step.Captured place) = Captures trace (λ parts. part_at parts place) rs rs1 × IsOk answer
    Turned filter tag block trace rs rs1 answer (step.Partial template) =
        Opens trace (λ parts. nodes_run s (depth - 1) (template_nodes filter tag block template.value)) rs rs1 × IsOk answer

  module _ {N R : Type 0} (m : NodeMeaning N R Reg) (n : N) (parts : List (Action Reg)) (p q : R) (v w : View Reg) (b c : Output) where
    -- a turn that was taken: the others follow, or it was the last one
    abbrev pub Takes : Answer → Bool → Type 0
    Takes answer true = IsOk answer × ((k : ℕ) → (a : Output) → (x : View Reg) → (later : Answer)
        → RendersWithin (turns s (partials_at s depth) m n parts k q w) w c a x later
        → RendersWithin (turns s (partials_at s depth) m n parts (suc k) p v) v b a x later)
    Takes answer false = (k : ℕ) → RendersWithin (turns s (partials_at s depth) m n parts (suc k) p v) v b c w answer

-- what was rendered to an open text, from one output of the text to the other, does not reach the sink, which was asked
-- only for turns
pub record Aside (before opened closed after : Output) : Type 0 where
  pub empty : opened.sunk.taken ≡ []
  pub no_bytes : opened.bytes ≡ None
  pub turns : opened.turns ≡ before.turns
  pub failures : closed.sunk.failures ≡ opened.sunk.failures
  pub back : after ≡ record before { turns = closed.turns }

-- a part was rendered aside under its frame, which has ended, and the node was given the text, unless the part was
-- refused
pub record Captured {Reg N R : Type 0} (m : NodeMeaning N R Reg) (n : N) (inner : Action Reg) (trace : Option (List ℕ)) (p q : R)
    (v w : View Reg) (rs rs1 : List (Restore Reg)) (b c : Output) (answer : Answer) (result : Bool) : Type 0 where
  pub start : Output
  pub last : Output
  pub left : View Reg
  pub own : Answer
  pub rendered : RendersWithin (inner v) v start last left own
  pub aside : Aside b start last c
  pub ends : EndsFirst rs left rs1 w
  pub traced : ErrBecomes (refused_through trace) own answer
  pub goes_on : result ≡ is_ok answer
  pub progress : result ≡ true → q ≡ m.catches n p last.sunk.taken

-- a partial is within the bound, and one more may be nested
abbrev pub Small : {X A C F T B : Type 0} → (X → F) → (A → T) → (C → B) → ℕ → ℕ → Step X A C → Type 0
Small filter tag block depth bound step.Stop = Unit {0}
Small filter tag block depth bound step.Next = Unit {0}
Small filter tag block depth bound (step.Part place) = Unit {0}
Small filter tag block depth bound (step.Captured place) = Unit {0}
Small filter tag block depth bound (step.Partial template) =
    (0 < depth) × (size_nodes (template_nodes filter tag block template.value) ≤ bound)

module _ {Reg F T P B Q : Type 0} (s : Setting Reg F T P B Q) (depth : ℕ) {A : Type 0} (of : A → Nodes F T B) (name : List ℕ) where
  -- what a name gives: the nodes that are found, with one less partial that may be nested, or a refusal
  abbrev pub Finds : Result A Error → Type 0
  Finds (Ok found) = (0 < depth) × (partials_at s depth name ≡ nodes_run s (depth - 1) (of found))
  Finds (Err e) = IfSome (told e) (λ r. partials_at s depth name ≡ refuses r)

  -- a partial is open under its frame, with its trace kept; or the frame has ended, and the answer is a refusal
  abbrev pub PartialOpens : FrameShape → Option (List ℕ) → View Reg → View Reg → List (Restore Reg) → List (Restore Reg) → Answer
      → Option (List ℕ) → Option A → Type 0
  PartialOpens frame trace v w rs rs1 answer kept (Some found) =
      (w ≡ beginning s.fresh frame v)
      × (rs1 ≡ restored_by frame v ∷ rs)
      × (partials_at s depth name ≡ nodes_run s (depth - 1) (of found))
      × (kept ≡ trace)
      × IsOk answer
  PartialOpens frame trace v w rs rs1 answer kept None =
      (rs1 ≡ rs) × IsErrAnd answer (λ e. (b : Output) → RendersWithin (under s.fresh frame trace (partials_at s depth name) v) v b b w
      (Err e))

-- the frame of a part has begun, with the part's trace kept; or out of memory is the answer, and no frame has begun
abbrev pub FrameBegins : {Reg : Type 0} → Reg → FrameShape → Option (List ℕ) → View Reg → View Reg → List (Restore Reg) → List (Restore Reg)
    → Answer → Option (List ℕ) → Bool → Type 0
FrameBegins fresh frame trace v w rs rs1 answer kept true =
    (w ≡ beginning fresh frame v) × (rs1 ≡ restored_by frame v ∷ rs) × (kept ≡ trace) × IsOk answer
FrameBegins fresh frame trace v w rs rs1 answer kept false = (w ≡ v) × (rs1 ≡ rs) × IsErrAnd answer (λ e. told e ≡ None)
