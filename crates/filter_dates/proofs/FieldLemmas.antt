-- A string writes the numbers of one date time, or of none.
use Rattle.std.proofs.Common.{◌≡◌, inl, inr, ℕ, List, refl, sym, ap, ◌∙◌, pos, Option, None, Some, Result, Ok, Err, subst, unwrap_or}
use Rattle.std.specs.Prelude.{IfOk, IfSome, IfNone}
use Rattle.liquid_dates.specs.declared.date_time.DateTime.{DateTime}
use Rattle.liquid_dates.proofs.WholeLemmas.{found_weaker, none_weaker}
use Rattle.filter_dates.specs.declared.fields.Fields.{Fields}
use Rattle.filter_dates.specs.meaning.MomentText.{fields_of, HasFields, IsMomentInText}
use Rattle.filter_dates.proofs.Deciding.{Decided, same_decided}
use Rattle.filter_dates.proofs.Parts.{IsAt, at_decided, same_date_time_is}

abbrev HasParts : Fields → DateTime → Type 0
HasParts f =
    IsAt (pos f.day.year) f.day.month f.day.day f.clock.hour f.clock.minute f.clock.second f.clock.nanosecond f.offset

fields_decided : (f : Fields) → Decided (HasFields f)
fields_decided f =
    same_decided (HasParts f) (HasFields f)
    (λ dt is. record {
      year = is.of_date.0;
      month = is.of_date.1;
      day = is.of_date.2;
      hour = is.of_hour;
      minute = is.of_minute;
      second = is.of_second;
      nanosecond = is.of_nano;
      offset = is.of_offset;
    })
    (λ dt has. record {
      of_date = (has.year, has.month, has.day);
      of_hour = has.hour;
      of_minute = has.minute;
      of_second = has.second;
      of_nano = has.nanosecond;
      of_offset = has.offset;
    })
    (at_decided (pos f.day.year) f.day.month f.day.day f.clock.hour f.clock.minute f.clock.second f.clock.nanosecond f.offset)

fields_once : (f : Fields) (a b : DateTime) → HasFields f a → HasFields f b → a ≡ b
fields_once f a b h k =
    same_date_time_is a b (
      (h.year ∙ sym k.year, h.month ∙ sym k.month, h.day ∙ sym k.day),
      (h.hour ∙ sym k.hour, h.minute ∙ sym k.minute, h.second ∙ sym k.second),
      h.nanosecond ∙ sym k.nanosecond,
      h.offset ∙ sym k.offset,
    )

-- two fields of one string are the same
one_value : (o : Option Fields) (f g : Fields) → o ≡ Some f → o ≡ Some g → f ≡ g
one_value o f g h k = ap (λ v. unwrap_or v f) (sym h ∙ k)

pub moment_in_text_decided : (bytes : List ℕ) → Decided (IsMomentInText bytes)
moment_in_text_decided bytes = by_fields (fields_of bytes) refl
  where
    by_value : (f : Fields) → fields_of bytes ≡ Some f → Decided (HasFields f) → Decided (IsMomentInText bytes)
    by_value f e (inl (dt, has)) = inl (dt, (f, e, has))
    by_value f e (inr none) =
        inr (λ dt h. none dt (subst (λ (g : Fields). HasFields g dt) (one_value (fields_of bytes) h.0 f h.1 e) h.2))

    by_fields : (o : Option Fields) → fields_of bytes ≡ o → Decided (IsMomentInText bytes)
    by_fields None e = inr (λ dt h. let some = h.1 in cc)
    by_fields (Some f) e = by_value f e (fields_decided f)

pub moment_in_text_once : (bytes : List ℕ) (a b : DateTime) → IsMomentInText bytes a → IsMomentInText bytes b → a ≡ b
moment_in_text_once bytes a b h k =
    fields_once k.0 a b (subst (λ (g : Fields). HasFields g a) (one_value (fields_of bytes) h.0 k.0 h.1 k.1) h.2) k.2

-- the numbers that were read of a string are those of its date time
pub fields_from : (bytes : List ℕ) (o : Option Fields) (f : Fields) (dt : DateTime) → o ≡ fields_of bytes → o ≡ Some f
    → IsMomentInText bytes dt → HasFields f dt
fields_from bytes o f dt e g h = subst (λ (x : Fields). HasFields x dt) (one_value (fields_of bytes) h.0 f h.1 (sym e ∙ g)) h.2

-- what holds of a result holds of a weaker fact
pub ok_found : {E : Type 0} (r : Result (Option DateTime) E) (P Q : DateTime → Type 0) → ((dt : DateTime) → P dt → Q dt)
    → IfOk r (λ o. IfSome o P) → IfOk r (λ o. IfSome o Q)
ok_found (Ok o) P Q f h = found_weaker o P Q f h
ok_found (Err e) P Q f h = h

pub ok_none : {E : Type 0} (r : Result (Option DateTime) E) (P Q : DateTime → Type 0) → ((dt : DateTime) → Q dt → P dt)
    → IfOk r (λ o. IfNone o ((dt : DateTime) → ¬ (P dt))) → IfOk r (λ o. IfNone o ((dt : DateTime) → ¬ (Q dt)))
ok_none (Ok o) P Q f h = none_weaker o P Q f h
ok_none (Err e) P Q f h = h
