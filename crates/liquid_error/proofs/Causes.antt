-- What an error with a cause says, and what a list of clones means.
use Rattle.std.proofs.Common.{◌≡◌, rules, Option, Some, None, option_map, List, [], ◌∷◌, map, refl, sym, ◌∙◌, ap₂}
use Rattle.std.specs.List.{AllZip}
use Rattle.liquid_error.specs.declared.cause.CauseOf.{CauseOf}
use Rattle.liquid_error.specs.declared.cause.CauseOf.TheVariants as cause_of
use Rattle.liquid_error.specs.declared.error.Error.{Error, the_lemmas}
use Rattle.liquid_error.specs.declared.error.Error.TheViews.{Liquid}
use Rattle.liquid_error.specs.declared.report.Report.{Report}
use Rattle.liquid_error.specs.meaning.Refusal.{Refusal, Reason, with_cause}
use Rattle.liquid_error.specs.meaning.Told.{told, reason_of, refusal_of}

pub told_caused : (report : Report) (cause : CauseOf Error) → told (Liquid report (Some cause)) ≡ Some
    (with_cause (reason_of cause) (refusal_of report))
told_caused report (cause_of.Error e) = search (rules, the_lemmas)
told_caused report (cause_of.Cloneable e) = search (rules, the_lemmas)

pub told_recaused : (report : Report) (old : Option (CauseOf Error)) (r : Reason)
    → option_map (with_cause r) (told (Liquid report old)) ≡ Some (with_cause r (refusal_of report))
told_recaused report None r = search (rules, the_lemmas)
told_recaused report (Some (cause_of.Error e)) r = search (rules, the_lemmas)
told_recaused report (Some (cause_of.Cloneable e)) r = search (rules, the_lemmas)

-- two errors whose reports and causes mean the same say the same
pub copied_cause : (old new : Report) (a b : CauseOf Error) → refusal_of new ≡ refusal_of old → reason_of b ≡ reason_of a
    → told (Liquid new (Some b)) ≡ told (Liquid old (Some a))
copied_cause old new a b reports causes =
    told_caused new b
    ∙ ap₂ (λ (r : Refusal) (reason : Reason). Some (with_cause reason r)) reports causes
    ∙ sym (told_caused old a)

-- clones that mean the same, one by one, make lists that mean the same
pub same_clones : {A B : Type 0} (f : A → B) (xs ys : List A) → AllZip (λ x y. f y ≡ f x) xs ys → map f ys ≡ map f xs
same_clones f [] [] h = refl
same_clones f [] (y ∷ ys) h = absurd h
same_clones f (x ∷ xs) [] h = absurd h
same_clones f (x ∷ xs) (y ∷ ys) h = ap₂ (λ a rest. a ∷ rest) h.0 (same_clones f xs ys h.1)
