-- Parts of a string that are left out.
use Rattle.std.proofs.Common.{◌≡◌, ℕ, suc, ◌+◌, ◌-◌, ◌<◌, ◌≤◌, true, cond, List, [], ◌∷◌, ◌++◌, Option, None}
use Rattle.std.proofs.Common.{Some, length, take, drop, get_or, leb, refl, sym, ap, ◌∙◌, arith, append_assoc, drop-drop, length-drop, ⊎_elim}
use Rattle.std.specs.List.{slice_range, starts_with}
use Rattle.std.specs.Option.{option_map}
use Rattle.std.specs.Prelude.{nat_eq}
use Rattle.std.specs.Str.{IsUtf8, IsCharBoundary}
use Rattle.std.proofs.lemmas.Bool.{cond-true, cond-false, cases_Bool, cases_lt, leb-true, le-leb}
use Rattle.std.proofs.lemmas.List.{drop_more, get_or-drop}
use Rattle.std.proofs.lemmas.List.Edits.{between_more}
use Rattle.std.proofs.lemmas.Slice.Eq.{bytes_eq-Decides}
use Rattle.memchr.specs.Find.{OccursAt, FindsNeedle, FindsLastNeedle, first_of, matches}
use Rattle.memchr.proofs.lemmas.MatchLemmas.{OccursAt-from_part}
use Rattle.memchr.proofs.lemmas.ValueLemmas.{FindsNeedle-value}
use Rattle.liquid_strings.specs.meaning.Tags.{byte_kept, first_part, part_len, then_passed, without_after}
use Rattle.liquid_strings.specs.declared.tags.Kind.{Kind}
use Rattle.liquid_strings.specs.steps.Kinds.{FitsText}
use Rattle.liquid_strings.proofs.PlaceLemmas.{cut_after, cut_before}

-- a place in what follows another is a place in the string
later : (text needle : List ℕ) (body k : ℕ) → body ≤ length text → OccursAt (drop body text) needle k → OccursAt text needle (body + k)
later text needle body k le occurs =
    let fits = occurs.fits in
    record {
      fits = omega (arith, length-drop body text);
      reads = λ j l. let place : body + k + j ≡ body + (k + j) = omega arith in ap (λ n. get_or text n 0) place
          ∙ sym (get_or-drop body text (k + j) 0) ∙ occurs.reads j l;
    }

-- the place after the last one at which a needle begins
pub after_last : (text needle : List ℕ) (last : ℕ) → FindsLastNeedle text needle (Some last) → (place : ℕ) → OccursAt text needle place
    → place < last + 1
after_last text needle last found place occurs = ⊎_elim
    (λ le. le)
    (λ more. absurd (found.0.after place more (omega (arith, occurs.fits)) occurs))
    (cases_lt place (last + 1))

pub no_last : (text needle : List ℕ) → FindsLastNeedle text needle None → (place : ℕ) → OccursAt text needle place → place < 0
no_last text needle none place occurs = absurd (none place (omega arith) (omega (arith, occurs.fits)) occurs)

module _ (text opener closer : List ℕ) (at : ℕ) (within : at ≤ length text) where
  pub opens_at : length opener ≤ length (drop at text) → starts_with nat_eq (drop at text) opener ≡ true → OccursAt text opener at
  opens_at short begins = OccursAt-from_part text opener at (omega (arith, length-drop at text))
      (sym ((bytes_eq-Decides opener (take (length opener) (drop at text))).0 begins))

  -- what does ends where a search for the closer finds it
  searched : starts_with nat_eq (drop at text) opener ≡ true → (r : Option ℕ) → FindsNeedle (drop (at + length opener) text) closer 0 r
      → part_len opener closer (drop at text) ≡ option_map (λ place. length opener + place + length closer) r
  searched begins r found =
      cond-true _ _ _ begins
      ∙ ap (λ rest. option_map (λ place. length opener + place + length closer) (first_of (matches rest closer 0)))
      (drop-drop (length opener) at text)
      ∙ ap (option_map (λ place. length opener + place + length closer))
      (sym (FindsNeedle-value (drop (at + length opener) text) closer r found))

  pub no_closer : starts_with nat_eq (drop at text) opener ≡ true → FindsNeedle (drop (at + length opener) text) closer 0 None
      → None ≡ option_map (λ n. at + n) (part_len opener closer (drop at text))
  no_closer begins found = ap (option_map (λ n. at + n)) (sym (searched begins None found))

  pub closes_at : starts_with nat_eq (drop at text) opener ≡ true → (place : ℕ) → FindsNeedle (drop (at + length opener) text) closer 0
      (Some place)
      → Some (at + length opener + place + length closer) ≡ option_map (λ n. at + n) (part_len opener closer (drop at text))
  closes_at begins place found =
      let sum : at + length opener + place + length closer ≡ at + (length opener + place + length closer) = omega arith in
      ap Some sum ∙ ap (option_map (λ n. at + n)) (sym (searched begins (Some place) found))

  -- no closer begins from its end on
  pub none_from_end : (end : ℕ) → ((place : ℕ) → OccursAt text closer place → place < end) → end ≤ at + length opener
      → at + length opener ≤ length text
      → FindsNeedle (drop (at + length opener) text) closer 0 None
  none_from_end end last low fits = λ k a b occurs. omega
      (arith, last (at + length opener + k) (later text closer (at + length opener) k fits occurs))

  -- where a part begins and ends the string may be cut
  pub cuts_end : IsUtf8 text → IsUtf8 closer → 0 < length closer → at + length opener ≤ length text → (place : ℕ)
      → FindsNeedle (drop (at + length opener) text) closer 0 (Some place)
      → IsCharBoundary text (at + length opener + place + length closer)
  cuts_end u v more fits place found =
      let occurs = later text closer (at + length opener) place fits found.1 in
      cut_after text closer u v (at + length opener + place) (cut_before text closer u v (at + length opener + place) more occurs) occurs

-- an option that a function of it shows
pub shown_none : (f : ℕ → ℕ) (o : Option ℕ) → None ≡ option_map f o → o ≡ None
shown_none f None e = refl
shown_none f (Some n) e = absurd (cc)

pub shown_some : (f : ℕ → ℕ) (o : Option ℕ) (m : ℕ) → Some m ≡ option_map f o → (n : ℕ) × (o ≡ Some n) × (m ≡ f n)
shown_some f None m e = absurd (cc)
shown_some f (Some n) m e = (n, refl, (cc))

-- one step over a string
module _ (ks : List (List ℕ × List ℕ)) (bs out whole : List ℕ) (kept at : ℕ) (within : at < length bs)
    (held : out ++ (slice_range bs kept at ++ without_after ks (kept - at) (drop at bs)) ≡ whole) where
  step : without_after ks 0 (drop at bs) ≡ byte_kept (first_part ks (drop at bs)) (get_or bs at 0)
      ++ without_after ks (then_passed (first_part ks (drop at bs))) (drop (at + 1) bs)
  step =
      let e = drop_more bs at 0 within in
      ap (without_after ks 0) e
      ∙ sym (ap (λ x. byte_kept (first_part ks x) (get_or bs at 0) ++ without_after ks (then_passed (first_part ks x))
      (drop (at + 1) bs)) e)

  passed : at < kept → out ++ (slice_range bs kept (at + 1) ++ without_after ks (kept - (at + 1)) (drop (at + 1) bs)) ≡ whole
  passed inside =
      let before : at - kept ≡ 0 = omega arith in
      let after : at + 1 - kept ≡ 0 = omega arith in
      let left : kept - at ≡ suc (kept - (at + 1)) = omega arith in
      ap (λ n. out ++ (take n (drop kept bs) ++ without_after ks (kept - (at + 1)) (drop (at + 1) bs))) after
      ∙ ap (λ l. out ++ l) (sym (ap (without_after ks (suc (kept - (at + 1)))) (drop_more bs at 0 within)))
      ∙ ap (λ n. out ++ (take 0 (drop kept bs) ++ without_after ks n (drop at bs))) (sym left)
      ∙ ap (λ n. out ++ (take n (drop kept bs) ++ without_after ks (kept - at) (drop at bs))) (sym before)
      ∙ held

  outside : kept ≤ at → without_after ks (kept - at) (drop at bs) ≡ without_after ks 0 (drop at bs)
  outside le =
      let none : kept - at ≡ 0 = omega arith in
      ap (λ n. without_after ks n (drop at bs)) none

  kept_byte : kept ≤ at → None ≡ first_part ks (drop at bs) → out
      ++ (slice_range bs kept (at + 1) ++ without_after ks (kept - (at + 1)) (drop (at + 1) bs)) ≡ whole
  kept_byte le none =
      let zero : kept - (at + 1) ≡ 0 = omega arith in
      ap (λ l. out ++ (l ++ without_after ks (kept - (at + 1)) (drop (at + 1) bs))) (between_more bs kept at 0 le within)
      ∙ ap (λ n. out ++ ((slice_range bs kept at ++ get_or bs at 0 ∷ []) ++ without_after ks n (drop (at + 1) bs))) zero
      ∙ ap (λ l. out ++ l) (append_assoc (slice_range bs kept at) (get_or bs at 0 ∷ []) (without_after ks 0 (drop (at + 1) bs)))
      ∙ ap (λ p. out ++ (slice_range bs kept at
      ++ (byte_kept p (get_or bs at 0) ++ without_after ks (then_passed p) (drop (at + 1) bs)))) none
      ∙ ap (λ l. out ++ (slice_range bs kept at ++ l)) (sym step)
      ∙ ap (λ l. out ++ (slice_range bs kept at ++ l)) (sym (outside le))
      ∙ held

  -- a byte that begins no part, or is in one
  pub no_part : None ≡ cond (leb kept at) (option_map (λ n. at + n) (first_part ks (drop at bs))) None
      → out ++ (slice_range bs kept (at + 1) ++ without_after ks (kept - (at + 1)) (drop (at + 1) bs)) ≡ whole
  no_part none = ⊎_elim
      (λ inside. passed inside)
      (λ le. kept_byte le (sym (shown_none (λ n. at + n) _ (none ∙ cond-true _ _ _ (le-leb kept at le)))))
      (cases_lt at kept)

  -- a part that begins
  pub part : (end : ℕ) → at < end → Some end ≡ cond (leb kept at) (option_map (λ n. at + n) (first_part ks (drop at bs))) None
      → (kept ≤ at) × ((out ++ slice_range bs kept at)
      ++ (slice_range bs end (at + 1) ++ without_after ks (end - (at + 1)) (drop (at + 1) bs)) ≡ whole)
  part end more some = ⊎_elim
      (λ yes.
      let le : kept ≤ at = leb-true kept at yes in
      let found = shown_some (λ n. at + n) (first_part ks (drop at bs)) end (some ∙ cond-true _ _ _ yes) in
      let n = found.0 in
      let sum : end ≡ at + n = found.2 in
      let empty : at + 1 - end ≡ 0 = omega arith in
      let left : end - (at + 1) ≡ n - 1 = omega arith in (
        le,
        ap (λ k. (out ++ slice_range bs kept at) ++ (take k (drop end bs) ++ without_after ks (end - (at + 1)) (drop (at + 1) bs))) empty
            ∙ append_assoc out (slice_range bs kept at) (without_after ks (end - (at + 1)) (drop (at + 1) bs))
            ∙ ap (λ k. out ++ (slice_range bs kept at ++ without_after ks k (drop (at + 1) bs))) left
            ∙ ap (λ p. out ++ (slice_range bs kept at
            ++ (byte_kept p (get_or bs at 0) ++ without_after ks (then_passed p) (drop (at + 1) bs)))) (sym found.1)
            ∙ ap (λ l. out ++ (slice_range bs kept at ++ l)) (sym step)
            ∙ ap (λ l. out ++ (slice_range bs kept at ++ l)) (sym (outside le))
            ∙ held,
      ))
      (λ fails. absurd (cc (some ∙ cond-false _ _ _ fails)))
      (cases_Bool (leb kept at))

-- parts of a string whose opener and closer are known
pub fits_text : (text opener closer : List ℕ) (kind : Kind) → kind.opener.now ≡ opener → kind.closer.now ≡ closer → 0 < length opener
    → 0 < length closer
    → ((place : ℕ) → OccursAt text closer place → place < kind.end) → FitsText text kind
fits_text text opener closer kind o c opens closes last = record {
  opens = rw o opens;
  closes = rw c closes;
  last = rw c last;
}
