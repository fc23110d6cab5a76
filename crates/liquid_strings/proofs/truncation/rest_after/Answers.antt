use Rattle.std.proofs.Common.{◌≡◌, drop, sym, ap, ◌∙◌, arith}
use Rattle.std.specs.Str.{chars, encode_utf8_all}
use Rattle.std.specs.Str.Iter.{chars_rest}
use Rattle.std.proofs.lemmas.List.{nil_from_length}
use Rattle.std.proofs.lemmas.Str.{chars-nil, chars_past_char, encodes-chars, IsUtf8-past_char}
use Rattle.liquid_strings.proofs.CutLemmas.{drop_next, nothing_later}
use Rattle.liquid_strings.proofs.truncation.rest_after.Goals as goal

pub returns-in_default : goal.returns-in_default
returns-in_default c =
    let nothing = sym (ap chars (nil_from_length (chars_rest c.loop.rest) c.in_default.ensures.steps.0.0) ∙ chars-nil)
    ∙ c.loop.invariant.left in
    ap encode_utf8_all (nothing_later (chars c.args.text.now) c.loop.counter c.args.count nothing (omega arith))

pub loop-preserved : goal.loop-preserved
loop-preserved c =
    let held = c.loop.invariant in
    let parts = c.in-Some.ensures.steps.0 in
    record {
      text = IsUtf8-past_char _ _ c.in-Some.field-0 held.text parts;
      left = drop_next (chars c.args.text.now) _ c.in-Some.field-0 c.loop.counter
          (sym (chars_past_char _ _ c.in-Some.field-0 held.text parts) ∙ held.left);
    }

pub returns : goal.returns
returns c =
    let held = c.loop.invariant in
    let end : c.loop.counter ≡ c.args.count = omega arith in
    c.as_str.ensures ∙ sym (encodes-chars _ held.text) ∙ ap encode_utf8_all held.left
    ∙ ap (λ k. encode_utf8_all (drop k (chars c.args.text.now))) end
