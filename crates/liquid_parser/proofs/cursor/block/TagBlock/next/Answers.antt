use Rattle.std.proofs.Common.{◌∙◌, ap}
use Rattle.std.specs.Prelude.{Ok}
use Rattle.std.proofs.lemmas.Result.{err_from_is_err_and}
use Rattle.liquid_parser.specs.meaning.BlockReading.{end_or}
use Rattle.liquid_parser.proofs.BlockLemmas.{first_out, first_fault, same_fault}
use Rattle.liquid_parser.proofs.cursor.block.TagBlock.next.Goals as goal

pub returns-then-is_end-clause-open : goal.returns-then-is_end-clause-open
returns-then-is_end-clause-open c is_open es cover =
    let found = c.in-Some.ensures.found in
    let over = c.in_ok-element-in-Some.ensures c.in-Some.following.now found.0 found.1 found.2 in
    let out =
    first_out c.args.self.now.source.now c.args.self.now.end_name.now _ c.in-Some.following.now found.0 es found.1 cover
    over.0 in (
      (
        out.0 ∙ (c.in_ok-is_end-in-Some.ensures _ c.in-Some.following.now found.0 over.1
            ∙ ap (λ b. Ok (end_or found.0 b)) c.if-is_end.true),
        c.if-is_end.true,
      ),
      out.1,
    )

pub returns-else-is_end-clause-open : goal.returns-else-is_end-clause-open
returns-else-is_end-clause-open c is_open es cover =
    let found = c.in-Some.ensures.found in
    let over = c.in_ok-element-in-Some.ensures c.in-Some.following.now found.0 found.1 found.2 in
    let out =
    first_out c.args.self.now.source.now c.args.self.now.end_name.now _ c.in-Some.following.now found.0 es found.1 cover
    over.0 in (
      (
        found.0,
        out.0 ∙ (c.in_ok-is_end-in-Some.ensures _ c.in-Some.following.now found.0 over.1
            ∙ ap (λ b. Ok (end_or found.0 b)) c.if-is_end.false),
        over.1,
        c.if-is_end.false,
      ),
      out.1,
    )

pub returns-in_err-is_end-in-Some-clause-open : goal.returns-in_err-is_end-in-Some-clause-open
returns-in_err-is_end-in-Some-clause-open c is_open es cover =
    let found = c.in-Some.ensures.found in
    let over = c.in_ok-element-in-Some.ensures c.in-Some.following.now found.0 found.1 found.2 in
    let out = first_out c.args.self.now.source.now c.args.self.now.end_name.now _ c.in-Some.following.now found.0 es found.1 cover over.0 in
    let p = err_from_is_err_and c.from_residual-in_err-is_end-in-Some.result c.from_residual-in_err-is_end-in-Some.ensures.1 in
    rw (p.1, p.2) (((same_fault _ _ _ out.0 (c.in_err-is_end-in-Some.ensures _ c.in-Some.following.now found.0 over.1), is_open), out.1))

pub returns-in_err-element-in-Some-clause-open : goal.returns-in_err-element-in-Some-clause-open
returns-in_err-element-in-Some-clause-open c is_open es cover =
    let found = c.in-Some.ensures.found in
    let out =
    first_fault c.args.self.now.source.now c.args.self.now.end_name.now _ c.in-Some.following.now found.0 es _ found.1 cover
    (c.in_err-element-in-Some.ensures c.in-Some.following.now found.0 found.1 found.2) in
    let p = err_from_is_err_and c.from_residual.result c.from_residual.ensures.1 in
    rw (p.1, p.2) (((out.0, is_open), out.1))
