use Rattle.std.proofs.Common.{◌≡◌, true, false, sym, refl, ◌∙◌, rules}
use Rattle.liquid_std.specs.meaning.inclusion.CallsGiven.{begin_with_colon}
use Rattle.liquid_std.proofs.WordLemmas.{word_next}
use Rattle.liquid_std.proofs.inclusion.pairs.after_word.Goals.{else-eq-via-then-eq+else-not-begin_with_colon, else-eq-via-else-eq}
use Rattle.liquid_std.proofs.inclusion.pairs.after_word.Goals as goal

pub returns-then-not-begin_with_colon : goal.returns-then-not-begin_with_colon
returns-then-not-begin_with_colon c = λ ts at.
    let one = c.in_ok-token.ensures.value ts at in
    let apart : c.begin_with_colon.result ≡ false = search rules in (
      one.0.1,
      word_next c.args.word.now ts one.0 _ true false one.1 (c.as_str.ensures one.0.0 one.2.token_is)
          (sym c.eq.ensures ∙ c.if-eq.true) (sym (c.begin_with_colon.ensures one.0.1 one.2.left) ∙ apart),
      one.2.left,
    )

pub returns-else-eq : goal.returns-else-eq
returns-else-eq c = λ ts at.
    let one = c.in_ok-token.ensures.value ts at in
    elim c.else-eq.branch [
      | else-eq-via-then-eq+else-not-begin_with_colon w ↦
          let next : w.begin_with_colon.result ≡ true = search rules in
          word_next c.args.word.now ts one.0 _ true true one.1 (c.as_str.ensures one.0.0 one.2.token_is)
          (sym c.eq.ensures ∙ w.if-eq.true) (sym (w.begin_with_colon.ensures one.0.1 one.2.left) ∙ next)
      | else-eq-via-else-eq w ↦
          word_next c.args.word.now ts one.0 _ false (begin_with_colon one.0.1.left) one.1 (c.as_str.ensures one.0.0 one.2.token_is)
          (sym c.eq.ensures ∙ w.if-eq.false) refl
    ]
