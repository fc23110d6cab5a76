-- What is left of the filters of a chain, after those that were made.
use Rattle.std.proofs.Common.{◌≡◌, ℕ, List, [], ◌∷◌, ◌++◌, Option, Some, None, Result, Ok, Err, refl, sym, ap, ◌∙◌, subst}
use Rattle.std.specs.Prelude.{IfSome, option_map}
use Rattle.std.specs.Option.{option_or}
use Rattle.std.proofs.lemmas.Option.{same_Some}
use Rattle.liquid_error.specs.meaning.Refusal.{Refusal, ok_then}
use Rattle.liquid_grammar.specs.declared.parts.FilterStart.{FilterStart}
use Rattle.liquid_grammar.specs.meaning.Faults.{Fault, filter_fault, first_fault}
use Rattle.liquid_grammar.specs.meaning.Parts.{NoneLeft, First, IsFilter}
use Rattle.liquid_grammar.specs.meaning.Rules.{Repeated, more}
use Rattle.liquid_grammar.specs.meaning.Tokens as token
use Rattle.liquid_grammar.specs.meaning.Tokens.{Following, FilterRule}
use Rattle.liquid_parser.specs.meaning.Lang.{Filters}
use Rattle.liquid_grammar.proofs.TokenExact.{exact-filter}
use Rattle.liquid_plugins.specs.meaning.ArgumentsOf.{Arguments}
use Rattle.liquid_parser.specs.meaning.Handed.{arguments_meant, place_in, slice_between}
use Rattle.liquid_parser.specs.meaning.Reading.{filters_read, filter_or, filter_refused, refusal_of_filter}
use Rattle.liquid_parser.proofs.Slices.{front_ends}
use Rattle.liquid_parser.proofs.Indexes.{first_none}
use Rattle.std.proofs.lemmas.List.{append-nil}

-- filters after others
abbrev pub after_all : {F : Type 0} → List F → Result (List F) Refusal → Result (List F) Refusal
after_all xs r = ok_then r (λ ys. Ok (xs ++ ys))

push_all : {F : Type 0} (xs : List F) (x : F) (ys : List F) → xs ++ x ∷ ys ≡ (xs ++ x ∷ []) ++ ys
push_all [] x ys = refl
push_all (y ∷ xs) x ys = ap (λ zs. y ∷ zs) (push_all xs x ys)

after_push : {F : Type 0} (xs : List F) (x : F) (r : Result (List F) Refusal)
    → after_all xs (ok_then r (λ ys. Ok (x ∷ ys))) ≡ after_all (xs ++ x ∷ []) r
after_push xs x (Ok ys) = ap (λ zs. Ok zs) (push_all xs x ys)
after_push xs x (Err e) = refl

after_none : {F : Type 0} (r : Result (List F) Refusal) → after_all [] r ≡ r
after_none (Ok ys) = refl
after_none (Err e) = refl

-- the first of these filters is between its places
pub filter_here : (s rest : List ℕ) (f : token.Filter) (fs : List token.Filter) → Repeated (Following 124 FilterRule) s rest (f ∷ fs)
    → FilterRule f.place f.following f
filter_here s rest f fs (more {middle = middle} m ms) =
    let inner = m.match.after in
    subst (λ g. FilterRule g.place g.following g) (sym m.is)
    (subst (λ p. FilterRule p m.from.1.following m.from.1) (sym inner.begins)
    (subst (λ p. FilterRule m.match.middle p m.from.1) (sym inner.ends) inner))

module _ {F : Type 0} (filters : Filters F) (source : List ℕ) where
  pub record Left (s rest : List ℕ) (made : List F) (meant : Result (List F) Refusal) (whole : Option Fault) : Type 0 where
    pub filters_left : List token.Filter
    pub match : Repeated (Following 124 FilterRule) s rest filters_left
    pub fault : whole ≡ first_fault filter_fault filters_left
    pub joined : meant ≡ after_all made (filters_read filters source filters_left)

  pub left_all : (s rest : List ℕ) (fs : List token.Filter) → Repeated (Following 124 FilterRule) s rest fs
      → Left s rest [] (filters_read filters source fs) (first_fault filter_fault fs)
  left_all s rest fs m = record { filters_left = fs; match = m; fault = refl; joined = sym (after_none _) }

  -- one more filter, and what is left after it if it has no fault
  pub record Next (s : List ℕ) (start : FilterStart) (rest : List ℕ) (made : List F) (meant : Result (List F) Refusal)
      (whole : Option Fault) : Type 0 where
    pub middle : List ℕ
    pub filter : token.Filter
    pub found : IsFilter start middle filter
    pub here : FilterRule filter.place filter.following filter
    pub fine : whole ≡ None → filter_fault filter ≡ None
    pub made_next : filter_fault filter ≡ None → (x : F) → filter_or filters source (filters.get filter.what.0) filter ≡ Ok x
        → Left middle rest (made ++ x ∷ []) meant whole
    pub refused : (r : Refusal) → filter_or filters source (filters.get filter.what.0) filter ≡ Err r → meant ≡ Err r

  pub left_next : (s rest : List ℕ) (made : List F) (meant : Result (List F) Refusal) (whole : Option Fault) (start : FilterStart)
      → (left : Left s rest made meant whole) → First (IsFilter start) (Repeated (Following 124 FilterRule)) rest left.filters_left
      → Next s start rest made meant whole
  left_next s rest made meant full start left f =
      let fault : full ≡ first_fault filter_fault (f.part ∷ f.others) = left.fault ∙ ap (first_fault filter_fault) f.joined in
      let whole = left.joined ∙ ap (λ fs. after_all made (filters_read filters source fs)) f.joined in
      record {
        middle = f.middle;
        filter = f.part;
        found = f.found;
        here = filter_here s rest f.part f.others (subst (λ fs. Repeated (Following 124 FilterRule) s rest fs) f.joined left.match);
        fine = λ none. first_none _ _ (sym fault ∙ none);
        made_next = λ fine x is. record {
          filters_left = f.others;
          match = f.then;
          fault = fault ∙ ap (λ o. option_or o (first_fault filter_fault f.others)) fine;
          joined =
              whole ∙ (ap (λ o. after_all made (ok_then o (λ y. ok_then (filters_read filters source f.others) (λ ys. Ok (y ∷ ys))))) is
              ∙ after_push made x (filters_read filters source f.others));
        };
        refused =
            λ r is. whole ∙ ap (λ o. after_all made (ok_then o (λ y. ok_then (filters_read filters source f.others) (λ ys. Ok (y ∷ ys)))))
            is;
      }

  pub left_none : (s rest : List ℕ) (made : List F) (meant : Result (List F) Refusal) (whole : Option Fault)
      → (left : Left s rest made meant whole) → NoneLeft s rest left.filters_left → (whole ≡ None) × (meant ≡ Ok made)
  left_none s rest made meant whole left n = (
    left.fault ∙ ap (first_fault filter_fault) n.none,
    left.joined ∙ (ap (λ fs. after_all made (filters_read filters source fs)) n.none ∙ ap (λ xs. Ok xs) (append-nil made)),
  )

  -- what a filter makes from its arguments
  pub made_ok : (make : Arguments → Result F Refusal) (f : token.Filter) (a : Arguments) (x : F) → filters.get f.what.0 ≡ Some make
      → a ≡ arguments_meant f.what.1 → make a ≡ Ok x
      → filter_or filters source (filters.get f.what.0) f ≡ Ok x
  made_ok make f a x has same is =
      ap (λ o. filter_or filters source o f) has ∙ ap (filter_refused (place_in source f.place) (slice_between f.place f.following))
      (ap make (sym same) ∙ is)

  pub made_err : (make : Arguments → Result F Refusal) (f : token.Filter) (a : Arguments) (o o' : Option Refusal)
      → filters.get f.what.0 ≡ Some make → a ≡ arguments_meant f.what.1
      → IfSome o (λ r. make a ≡ Err r) → IfSome o' (λ r. option_map
      (refusal_of_filter (place_in source f.place) (slice_between f.place f.following)) o ≡ Some r)
      → IfSome o' (λ r. filter_or filters source (filters.get f.what.0) f ≡ Err r)
  made_err make f a o None has same is new = tt
  made_err make f a None (Some r) has same is new = cc new
  made_err make f a (Some q) (Some r) has same is new =
      ap (λ o. filter_or filters source o f) has
      ∙ (ap (filter_refused (place_in source f.place) (slice_between f.place f.following)) (ap make (sym same) ∙ is)
      ∙ ap (λ x. Err x) (same_Some _ _ new))

pub cut_here : (f : token.Filter) → FilterRule f.place f.following f → f.place ≡ slice_between f.place f.following ++ f.following
cut_here f m = let cut = exact-filter.cuts f.place f.following f m in front_ends f.place cut.0 f.following cut.1
