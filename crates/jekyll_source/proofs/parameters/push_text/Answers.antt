use Rattle.jekyll_source.specs.meaning.Literals.{between, literal}
use Rattle.jekyll_source.specs.meaning.Parameters.{without_escapes}
use Rattle.jekyll_source.specs.steps.Parts.{quote_byte}
use Rattle.jekyll_source.proofs.ParameterLemmas.{literal_pushed, other_pushed}
use Rattle.jekyll_source.proofs.parameters.push_text.Goals as goal
use Rattle.jekyll_source.proofs.parameters.push_text.Goals.{then-not-branch+in_ok-push_between, else-not-branch}

pub returns : goal.returns
returns c =
    let quote = quote_byte c.args.quote in
    let text = c.args.text.now in
    let lit = literal quote (without_escapes quote text) in
    elim c.if-not-branch.branch [
      | then-not-branch+in_ok-push_between w ↦ rw w.out-is (other_pushed _ _ _ (between quote text) lit
          (rw (w.if-not-branch.true, c.as_str.ensures.value, c.in_ok-unescaped.ensures) at c.in_ok-push_literal.ensures.value)
          (c.in_ok-push_literal.ensures.same w.if-not-branch.true) w.in_ok-push_between.ensures)
      | else-not-branch w ↦ rw w.out-is (literal_pushed _ _ (between quote text) lit
          (rw (w.if-not-branch.false, c.as_str.ensures.value, c.in_ok-unescaped.ensures) at c.in_ok-push_literal.ensures.value))
    ]
