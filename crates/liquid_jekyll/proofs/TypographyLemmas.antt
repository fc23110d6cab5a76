-- Marks, read one by one.
use Rattle.std.proofs.Common.{◌≡◌, ℕ, ◌+◌, ◌<◌, List, ◌++◌, length, drop, get_or, ap, ◌∙◌, sym, append_assoc}
use Rattle.std.proofs.lemmas.List.{drop_more}
use Rattle.std.proofs.lemmas.Str.{encodes-append}
use Rattle.std.specs.Str.{encode_utf8_all}
use Rattle.liquid_jekyll.specs.meaning.text.Typography.{smart, taken_after, written_at}

-- a piece more is written
pub passed : {A : Type 0} (out piece rest whole : List A) → out ++ (piece ++ rest) ≡ whole → (out ++ piece) ++ rest ≡ whole
passed out piece rest whole held = append_assoc out piece rest ∙ held

module _ (out whole : List ℕ) (taken at : ℕ) (cs : List ℕ) (within : at < length cs) where
  -- what is written so far and what is still to be written are the whole, after one character more
  pub one_more : out ++ encode_utf8_all (smart taken (drop at cs)) ≡ whole
      → (out ++ encode_utf8_all (written_at taken (drop at cs)))
      ++ encode_utf8_all (smart (taken_after taken (drop at cs)) (drop (at + 1) cs)) ≡ whole
  one_more held =
      let text = drop at cs in
      let rest = drop (at + 1) cs in
      let split = drop_more cs at 0 within in
      let parts : smart taken text ≡ written_at taken text ++ smart (taken_after taken text) rest =
      ap (smart taken) split
      ∙ ap (λ t. written_at taken t ++ smart (taken_after taken t) rest) (sym split) in
      append_assoc out (encode_utf8_all (written_at taken text)) (encode_utf8_all (smart (taken_after taken text) rest))
      ∙ ap (λ l. out ++ l) (sym (encodes-append (written_at taken text) (smart (taken_after taken text) rest)))
      ∙ ap (λ l. out ++ encode_utf8_all l) (sym parts)
      ∙ held
