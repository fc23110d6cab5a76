-- What is left of the indexes of a variable, after those that were built.
use Rattle.std.proofs.Common.{◌≡◌, ℕ, List, [], ◌∷◌, ◌++◌, Option, None, Some, refl, sym, ap, ◌∙◌}
use Rattle.std.specs.Option.{option_or}
use Rattle.liquid_grammar.specs.declared.parts.IndexStart.{IndexStart}
use Rattle.liquid_grammar.specs.meaning.Faults.{Fault, indexes_fault, index_fault}
use Rattle.liquid_grammar.specs.meaning.Parts.{NoneLeft, First, IsIndex}
use Rattle.liquid_grammar.specs.meaning.Rules.{Repeated}
use Rattle.liquid_grammar.specs.meaning.Values.{Index, gather, IndexRule}
use Rattle.liquid_plugins.specs.meaning.Expression.{ExpressionShape, Indexes, no_indexes, index}
use Rattle.liquid_plugins.specs.meaning.ExpressionOf.{indexes_of}
use Rattle.liquid_parser.specs.meaning.Handed.{indexes_meant, index_meant}

-- indexes in front of others
abbrev pub join : List ExpressionShape → Indexes → Indexes
join [] is = is
join (e ∷ es) is = index e (join es is)

join_all : (es : List ExpressionShape) → join es no_indexes ≡ indexes_of es
join_all [] = refl
join_all (e ∷ es) = ap (index e) (join_all es)

join_last : (es : List ExpressionShape) (e : ExpressionShape) (is : Indexes) → join (es ++ e ∷ []) is ≡ join es (index e is)
join_last [] e is = refl
join_last (f ∷ es) e is = ap (index f) (join_last es e is)

pub first_none : {A : Type 0} (a b : Option A) → option_or a b ≡ None → a ≡ None
first_none None b e = refl
first_none (Some x) b e = cc

pub second_none : {A : Type 0} (a b : Option A) → option_or a b ≡ None → b ≡ None
second_none None b e = e
second_none (Some x) b e = cc

pub record Left (depth : ℕ) (s rest : List ℕ) (built : List ExpressionShape) (meant : Indexes) (whole : Option Fault) : Type 0 where
  pub indexes : List Index
  pub match : Repeated IndexRule s rest indexes
  pub fault : whole ≡ indexes_fault depth (gather indexes)
  pub joined : meant ≡ join built (indexes_meant (gather indexes))

pub left_all : (depth : ℕ) (s rest : List ℕ) (is : List Index) → Repeated IndexRule s rest is
    → Left depth s rest [] (indexes_meant (gather is)) (indexes_fault depth (gather is))
left_all depth s rest is m = record { indexes = is; match = m; fault = refl; joined = refl }

-- one more index, and what is left after it if it has no fault
pub record Next (depth : ℕ) (s : List ℕ) (start : IndexStart) (after rest : List ℕ) (built : List ExpressionShape) (meant : Indexes)
    (whole : Option Fault) : Type 0 where
  pub middle : List ℕ
  pub index_here : Index
  pub found : IsIndex s start after middle index_here
  pub fine : whole ≡ None → index_fault depth index_here ≡ None
  pub then : index_fault depth index_here ≡ None → Left depth middle rest (built ++ index_meant index_here ∷ []) meant whole

pub left_next : (depth : ℕ) (s rest : List ℕ) (built : List ExpressionShape) (meant : Indexes) (whole : Option Fault) (start : IndexStart)
    (after : List ℕ)
    → (left : Left depth s rest built meant whole) → First (IsIndex s start after) (Repeated IndexRule) rest left.indexes
    → Next depth s start after rest built meant whole
left_next depth s rest built meant whole start after left f =
    let fault : whole ≡ indexes_fault depth (gather (f.part ∷ f.others)) =
    left.fault ∙ ap (λ is. indexes_fault depth (gather is)) f.joined in
    record {
      middle = f.middle;
      index_here = f.part;
      found = f.found;
      fine = λ none. first_none _ _ (sym fault ∙ none);
      then = λ fine. record {
        indexes = f.others;
        match = f.then;
        fault = fault ∙ ap (λ o. option_or o (indexes_fault depth (gather f.others))) fine;
        joined =
            left.joined ∙ (ap (λ is. join built (indexes_meant (gather is))) f.joined
            ∙ sym (join_last built (index_meant f.part) (indexes_meant (gather f.others))));
      };
    }

pub left_none : (depth : ℕ) (s rest : List ℕ) (built : List ExpressionShape) (meant : Indexes) (whole : Option Fault)
    → (left : Left depth s rest built meant whole) → NoneLeft s rest left.indexes
    → (whole ≡ None) × (indexes_of built ≡ meant)
left_none depth s rest built meant whole left n = (
  left.fault ∙ ap (λ is. indexes_fault depth (gather is)) n.none,
  sym (left.joined ∙ (ap (λ is. join built (indexes_meant (gather is))) n.none ∙ join_all built)),
)
