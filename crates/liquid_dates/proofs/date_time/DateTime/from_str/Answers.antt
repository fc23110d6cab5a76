use Rattle.std.proofs.Common.{◌∙◌, sym, FitsSigned, w64}
use Rattle.std.proofs.lemmas.Int.{to_z-of_z}
use Rattle.liquid_dates.proofs.UnixTimeLemmas.{not_empty, not_now, whole_text, whole_only, forms_text, forms_only}
use Rattle.liquid_dates.proofs.date_time.DateTime.from_str.Goals as goal

pub returns-in-Ok-clause-fits : goal.returns-in-Ok-clause-fits
returns-in-Ok-clause-fits c =
    let v = c.in-Ok.ensures.value.0 in
    let fits : FitsSigned w64 c.in-Ok.seconds = rw v.1 v.0.1 in
    let found = simp to_z-of_z at c.at_unix_seconds.ensures.found in
    whole_text c.args.text.now c.args.moment c.in-Ok.seconds c.at_unix_seconds.result
    (not_empty _ (sym c.is_empty.ensures ∙ c.if-is_empty.false)) (not_now _ (rw c.if-is_now.false at c.is_now.ensures))
    (v.0.0, v.0.1, v.1) found

pub returns-in-Ok-clause-only : goal.returns-in-Ok-clause-only
returns-in-Ok-clause-only c = λ dt text.
    let v = c.in-Ok.ensures.value.0 in
    let fits : FitsSigned w64 c.in-Ok.seconds = rw v.1 v.0.1 in
    let found = simp to_z-of_z at c.at_unix_seconds.ensures.found in
    let none = simp to_z-of_z at c.at_unix_seconds.ensures.none in
    whole_only c.args.text.now c.args.moment c.in-Ok.seconds c.at_unix_seconds.result dt
    (not_now _ (rw c.if-is_now.false at c.is_now.ensures)) (v.0.0, v.0.1, v.1) found none text

pub returns-in-Err-clause-fits : goal.returns-in-Err-clause-fits
returns-in-Err-clause-fits c =
    let v = c.in-Err.ensures.value.0 in
    let found = rw (c.ends_in_offset.ensures, c.as_bytes-bytes.ensures.value) at c.first_date_time.ensures.fits in
    forms_text c.args.text.now c.args.moment c.first_date_time.result (not_empty _ (sym c.is_empty.ensures ∙ c.if-is_empty.false))
    (not_now _ (rw c.if-is_now.false at c.is_now.ensures)) (λ z n. v (n.0, n.1)) found

pub returns-in-Err-clause-only : goal.returns-in-Err-clause-only
returns-in-Err-clause-only c = λ dt text.
    let v = c.in-Err.ensures.value.0 in
    let found = rw (c.ends_in_offset.ensures, c.as_bytes-bytes.ensures.value) at c.first_date_time.ensures.fits in
    let none = rw (c.ends_in_offset.ensures, c.as_bytes-bytes.ensures.value) at c.first_date_time.ensures.none in
    forms_only c.args.text.now c.args.moment c.first_date_time.result dt (not_now _ (rw c.if-is_now.false at c.is_now.ensures))
    (λ z n. v (n.0, n.1)) found none text
