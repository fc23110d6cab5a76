-- The front of a text before a rest of it.
use Rattle.std.proofs.Common.{◌≡◌, ℕ, ◌+◌, ◌-◌, ◌≤◌, List, ◌++◌, length, take, sym, ap, ◌∙◌, arith, length-append, subst}
use Rattle.std.specs.Prelude.{encode_utf8_all, slice_range}
use Rattle.std.specs.Str.{chars, IsUtf8, IsCharBoundary}
use Rattle.std.proofs.lemmas.Str.{encodes-chars, encodes-append, IsCharBoundary-at_seam}
use Rattle.std.proofs.Math.Seq.{take-append_seam}

-- the bytes of a text are those of its front and those of the rest
pub bytes_split : (text rest front : List ℕ) → IsUtf8 text → IsUtf8 rest → chars text ≡ front ++ chars rest
    → text ≡ encode_utf8_all front ++ rest
bytes_split text rest front u v e =
    sym (encodes-chars text u) ∙ ap encode_utf8_all e ∙ encodes-append front (chars rest)
    ∙ ap (λ t. encode_utf8_all front ++ t) (encodes-chars rest v)

pub rest_shorter : (text rest bytes : List ℕ) → text ≡ bytes ++ rest → (length rest ≤ length text)
    × (length text - length rest ≡ length bytes)
rest_shorter text rest bytes e =
    let l : length text ≡ length bytes + length rest = ap length e ∙ length-append bytes rest in
    (omega arith, omega arith)

front_range : (text : List ℕ) (n : ℕ) → slice_range text 0 n ≡ take n text
front_range text n = grind arith

pub front_taken : (text rest bytes : List ℕ) → text ≡ bytes ++ rest → slice_range text 0 (length text - length rest) ≡ bytes
front_taken text rest bytes e =
    front_range text _ ∙ ap (λ n. take n text) (rest_shorter text rest bytes e).1 ∙ ap (λ t. take (length bytes) t) e
    ∙ take-append_seam bytes rest

pub front_boundary : (text rest bytes : List ℕ) → IsUtf8 rest → text ≡ bytes ++ rest → IsCharBoundary text (length text - length rest)
front_boundary text rest bytes u e =
    let P : ℕ → Type 0 = λ n. IsCharBoundary text n in
    subst P (sym (rest_shorter text rest bytes e).1) (IsCharBoundary-at_seam text bytes rest e u)
