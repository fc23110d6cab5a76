-- What is left of the arguments of a filter, after those that were built.
use Rattle.std.proofs.Common.{◌≡◌, ℕ, Bool, false, List, [], ◌∷◌, ◌++◌, Option, None, Some, Bor, refl, sym, ap, ◌∙◌, subst}
use Rattle.std.specs.Prelude.{option_map}
use Rattle.std.specs.Option.{option_or}
use Rattle.liquid_grammar.specs.declared.parts.ArgumentStart.{ArgumentStart}
use Rattle.liquid_grammar.specs.meaning.Faults.{Fault, argument_fault, first_fault, value_fault}
use Rattle.liquid_grammar.specs.meaning.Parts.{NoneLeft, First, IsHead, IsArgument, ArgumentsFrom, argument_by}
use Rattle.liquid_grammar.specs.meaning.Tokens.{Argument}
use Rattle.liquid_grammar.specs.meaning.Values.{Value}
use Rattle.liquid_plugins.specs.meaning.ArgumentsOf.{Arguments}
use Rattle.liquid_plugins.specs.meaning.Expression.{ExpressionShape}
use Rattle.liquid_plugins.specs.meaning.ExpressionOf.{expression_of}
use Rattle.liquid_plugins.specs.declared.expression.Expression.{Expression}
use Rattle.liquid_parser.specs.meaning.Handed.{arguments_meant, with_argument, expression_meant}
use Rattle.liquid_parser.proofs.Indexes.{first_none}
use Rattle.std.proofs.lemmas.List.{append-nil}

-- arguments in front of others
abbrev pub join : Arguments → Arguments → Arguments
join a b = record { positional = a.positional ++ b.positional; keyword = a.keyword ++ b.keyword }

-- one more after those that were built
abbrev pub with_last : Option (List ℕ) → ExpressionShape → Arguments → Arguments
with_last (Some name) e a = record a { keyword = a.keyword ++ (name, e) ∷ [] }
with_last None e a = record a { positional = a.positional ++ e ∷ [] }

push_join : {A : Type 0} (xs : List A) (x : A) (ys : List A) → xs ++ x ∷ ys ≡ (xs ++ x ∷ []) ++ ys
push_join [] x ys = refl
push_join (y ∷ xs) x ys = ap (λ zs. y ∷ zs) (push_join xs x ys)

join_last : (a : Arguments) (name : Option (List ℕ)) (v : Value) (b : Arguments)
    → join a (with_argument (argument_by name v) b) ≡ join (with_last name (expression_meant v) a) b
join_last a (Some name) v b =
    ap (λ k. record { positional = a.positional ++ b.positional; keyword = k }) (push_join a.keyword (name, expression_meant v) b.keyword)
join_last a None v b =
    ap (λ p. record { positional = p; keyword = a.keyword ++ b.keyword }) (push_join a.positional (expression_meant v) b.positional)

pub record Left (first : Bool) (s rest : List ℕ) (built meant : Arguments) (whole : Option Fault) : Type 0 where
  pub arguments : List Argument
  pub match : ArgumentsFrom first s rest arguments
  pub fault : whole ≡ first_fault argument_fault arguments
  pub joined : meant ≡ join built (arguments_meant arguments)

argument_fine : (name : Option (List ℕ)) (v : Value) → argument_fault (argument_by name v) ≡ value_fault v
argument_fine (Some name) v = refl
argument_fine None v = refl

abbrev pub name_of : ArgumentStart → Option (List ℕ)
name_of a = option_map (λ name. name.now) a.name

pub record Next (s : List ℕ) (start : ArgumentStart) (rest : List ℕ) (built meant : Arguments) (whole : Option Fault) : Type 0 where
  pub middle : List ℕ
  pub place : List ℕ
  pub value : Value
  pub head : IsHead place middle start.head start.rest.now value
  pub fine : whole ≡ None → value_fault value ≡ None
  pub then : value_fault value ≡ None → Left false middle rest (with_last (name_of start) (expression_meant value) built) meant whole

pub left_next : (first : Bool) (s rest : List ℕ) (built meant : Arguments) (whole : Option Fault) (start : ArgumentStart)
    → (left : Left first s rest built meant whole) → First (IsArgument start) (ArgumentsFrom false) rest left.arguments
    → Next s start rest built meant whole
left_next first s rest built meant whole start left f =
    let fault : whole ≡ first_fault argument_fault (f.part ∷ f.others) = left.fault ∙ ap (first_fault argument_fault) f.joined in
    let part : argument_fault f.part ≡ value_fault f.found.value =
    ap argument_fault f.found.is ∙ argument_fine (name_of start) f.found.value in
    record {
      middle = f.middle;
      place = f.found.place;
      value = f.found.value;
      head = f.found.head;
      fine = λ none. sym part ∙ first_none _ _ (sym fault ∙ none);
      then = λ fine. record {
        arguments = f.others;
        match = f.then;
        fault = fault ∙ ap (λ o. option_or o (first_fault argument_fault f.others)) (part ∙ fine);
        joined =
            left.joined ∙ (ap (λ given. join built (arguments_meant given)) f.joined
            ∙ (ap (λ a. join built (with_argument a (arguments_meant f.others))) f.found.is
            ∙ join_last built (name_of start) f.found.value (arguments_meant f.others)));
      };
    }

pub left_none : (first : Bool) (s rest : List ℕ) (built meant : Arguments) (whole : Option Fault)
    → (left : Left first s rest built meant whole) → NoneLeft s rest left.arguments
    → (whole ≡ None) × (built ≡ meant)
left_none first s rest built meant whole left n = (
  left.fault ∙ ap (first_fault argument_fault) n.none,
  sym (left.joined ∙ (ap (λ given. join built (arguments_meant given)) n.none
      ∙ (ap (λ p. record { positional = p; keyword = built.keyword ++ [] }) (append-nil built.positional)
      ∙ ap (λ k. record { positional = built.positional; keyword = k }) (append-nil built.keyword)))),
)

-- a keyword argument in the program
abbrev pub key_of : Bor (List ℕ) × Expression → List ℕ × ExpressionShape
key_of k = (k.0.now, expression_of k.1)

pub keyword_then : (rest middle end : List ℕ) (built meant : Arguments) (whole : Option Fault) (o : Option (List ℕ)) (name : List ℕ)
    (e e' : ExpressionShape) (ks : List (List ℕ × ExpressionShape))
    → Left false middle end (with_last o e built) meant whole → o ≡ Some name → e' ≡ e → rest ≡ middle → ks ≡ built.keyword ++ (name, e')
    ∷ [] → Left false rest end (record built { keyword = ks }) meant whole
keyword_then rest middle end built meant whole o name e e' ks left named same following is =
    subst (λ r. Left false r end (record built { keyword = ks }) meant whole) (sym following)
    (subst (λ k. Left false middle end (record built { keyword = k }) meant whole)
    (sym (is ∙ ap (λ x. built.keyword ++ (name, x) ∷ []) same))
    (subst (λ o'. Left false middle end (with_last o' e built) meant whole) named left))

pub positional_then : (rest middle end : List ℕ) (built meant : Arguments) (whole : Option Fault) (o : Option (List ℕ))
    (e e' : ExpressionShape) (es : List ExpressionShape)
    → Left false middle end (with_last o e built) meant whole → o ≡ None → e' ≡ e → rest ≡ middle → es ≡ built.positional ++ e' ∷ []
    → Left false rest end (record built { positional = es }) meant whole
positional_then rest middle end built meant whole o e e' es left named same following is =
    subst (λ r. Left false r end (record built { positional = es }) meant whole) (sym following)
    (subst (λ k. Left false middle end (record built { positional = k }) meant whole) (sym (is ∙ ap (λ x. built.positional ++ x ∷ []) same))
    (subst (λ o'. Left false middle end (with_last o' e built) meant whole) named left))
