use Rattle.std.proofs.Common.{rules, ℕ, ◌-◌, ◌<◌, length, List, subst, sym, ◌∙◌, arith}
use Rattle.liquid_grammar.specs.steps.Steps.{EndsRaw, white_start}
use Rattle.liquid_grammar.proofs.RawLemmas.{ends_here, passed_to, passed_brace, ends_at_white, ends_at_braces, ends_at_end}
use Rattle.liquid_grammar.proofs.raw.raw_len.Goals as goal

pub returns-then-begins_braces-clause-ends : goal.returns-then-begins_braces-clause-ends
returns-then-begins_braces-clause-ends c =
    let some : 0 < length c.as_bytes-bytes.result.now = search rules in
    subst (λ (x : List ℕ). EndsRaw x 0) c.as_bytes-bytes.ensures.value
    (ends_here c.as_bytes-bytes.result.now some (sym c.begins_braces.ensures ∙ c.if-begins_braces.true))

pub returns-then-byte_at-eq45-clause-ends : goal.returns-then-byte_at-eq45-clause-ends
returns-then-byte_at-eq45-clause-ends c =
    let bytes = c.as_bytes-bytes.result.now in
    let from = c.braces.from in
    let at = c.in-Some.brace in
    let first = c.in-Some.ensures.first.0 in
    let high = first.high in
    let passed = passed_to bytes from at first.low (omega (arith, high)) c.braces.invariant.passed first.before in
    let found = ends_at_white bytes (white_start bytes from (at - from)) at high passed
    (sym c.begins_braces-in-Some.ensures ∙ c.if-begins_braces-2.true) (sym c.byte_at.ensures ∙ c.if-byte_at-eq45.true) in
    subst (λ (x : List ℕ). EndsRaw x c.white_start.result) c.as_bytes-bytes.ensures.value
    (subst (λ (n : ℕ). EndsRaw bytes n) (sym c.white_start.ensures.start) found)

pub returns-then-begins_braces-2-clause-ends : goal.returns-then-begins_braces-2-clause-ends
returns-then-begins_braces-2-clause-ends c =
    let bytes = c.as_bytes-bytes.result.now in
    let from = c.braces.from in
    let at = c.in-Some.brace in
    let first = c.in-Some.ensures.first.0 in
    let high = first.high in
    let passed = passed_to bytes from at first.low (omega (arith, high)) c.braces.invariant.passed first.before in
    subst (λ (x : List ℕ). EndsRaw x at) c.as_bytes-bytes.ensures.value
    (ends_at_braces bytes (white_start bytes from (at - from)) at high passed
    (sym c.begins_braces-in-Some.ensures ∙ c.if-begins_braces-2.true) (λ e. c.if-byte_at-eq45.false (c.byte_at.ensures ∙ e)))

pub braces-preserved : goal.braces-preserved
braces-preserved c =
    let bytes = c.as_bytes-bytes.result.now in
    let first = c.in-Some.ensures.first.0 in
    let high = first.high in
    record {
      passed = passed_brace bytes c.braces.from c.in-Some.brace first.low high c.braces.invariant.passed first.before
          c.in-Some.ensures.first.1 (sym c.begins_braces-in-Some.ensures ∙ c.if-begins_braces-2.false);
      within = omega (arith, high);
    }

pub returns-clause-ends : goal.returns-clause-ends
returns-clause-ends c =
    let bytes = c.as_bytes-bytes.result.now in
    let from = c.braces.from in
    let within = c.braces.invariant.within in
    let passed = passed_to bytes from (length bytes) within (omega arith) c.braces.invariant.passed c.in_default.ensures.first in
    subst (λ (x : List ℕ). EndsRaw x (length bytes)) c.as_bytes-bytes.ensures.value
    (ends_at_end bytes (white_start bytes from (length bytes - from)) (length bytes) (omega arith) passed)
