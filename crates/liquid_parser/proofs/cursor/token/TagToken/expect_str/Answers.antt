use Rattle.std.proofs.Common.{◌≡◌, refl, ap, sym, ◌∙◌, true, false, Some, None}
use Rattle.std.specs.Prelude.{bytes_eq, if◌then◌else◌}
use Rattle.liquid_parser.proofs.cursor.token.TagToken.expect_str.Goals as goal

pub returns-then-eq : goal.returns-then-eq
returns-then-eq c t is =
    let same : bytes_eq t.text c.args.expected.now ≡ true =
    ap (λ x. bytes_eq x c.args.expected.now) (sym (c.as_str.ensures t is)) ∙ (sym c.eq.ensures ∙ c.if-eq.true) in
    ap (λ b. if b then Some (tt {0}) else None) same

pub returns-else-eq : goal.returns-else-eq
returns-else-eq c t is =
    let other : bytes_eq t.text c.args.expected.now ≡ false =
    ap (λ x. bytes_eq x c.args.expected.now) (sym (c.as_str.ensures t is)) ∙ (sym c.eq.ensures ∙ c.if-eq.false) in
    (ap (λ b. if b then Some (tt {0}) else None) other, refl)
