use Rattle.std.proofs.Common.{◌≡◌, ℕ, ◌==◌, ◌<◌, Bool, true, false, map, cond, get_or, refl, ap, ◌∙◌, arith}
use Rattle.std.proofs.lemmas.List.FromFn.{get_or-map-range_with_len}
use Rattle.std.specs.List.{range_with_len}
use Rattle.liquid_grammar.specs.meaning.Bytes.{is_word}
use Rattle.liquid_grammar.specs.declared.bytes.TheConstants.{WORD_BYTES}
use Rattle.liquid_grammar.proofs.bytes.is_word.Goals as goal

abbrev mark : ℕ → ℕ
mark b = cond (is_word b) 1 0

-- the table has the mark of each byte
table_is : WORD_BYTES ≡ map mark (range_with_len 0 256)
table_is = refl

marked : (t : Bool) → (cond t 1 0 == 1) ≡ t
marked true = refl
marked false = refl

read : (b : ℕ) → b < 256 → (get_or WORD_BYTES b 0 == 1) ≡ is_word b
read b h =
    ap (λ (n : ℕ). n == 1) (ap (λ t. get_or t b 0) table_is ∙ get_or-map-range_with_len mark 0 256 b b 0 h (omega arith))
    ∙ marked (is_word b)

pub returns : goal.returns
returns c =
    let found : c.byte_at.result ≡ get_or WORD_BYTES c.args.byte 0 = c.byte_at.ensures ∙ ap (λ b. get_or WORD_BYTES b 0) c.from.ensures in
    ap (λ (n : ℕ). n == 1) found ∙ read c.args.byte (omega arith)
