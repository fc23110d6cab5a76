use Rattle.std.proofs.Common.{ap, ◌∙◌, sym, subst, ◌≡◌, ◌≤◌, length}
use Rattle.std.specs.Str.{IsCharBoundary}
use Rattle.liquid_jekyll.specs.meaning.url.Parting.{authority_length}
use Rattle.liquid_jekyll.proofs.CutLemmas.{before_slash}
use Rattle.liquid_jekyll.proofs.url.parting.split_authority.Goals as goal

pub split_at-requires : goal.split_at-requires
split_at-requires c =
    let value : c.authority_length.result ≡ authority_length c.args.text.now =
    c.authority_length.ensures.value ∙ ap authority_length c.as_bytes.ensures.value in
    let within : c.authority_length.result ≤ length c.args.text.now = rw c.as_bytes.ensures.value at c.authority_length.ensures.within in
    let inside : authority_length c.args.text.now ≤ length c.args.text.now = rw (value) at within in
    subst (λ i. IsCharBoundary c.args.text.now i) (sym value) (before_slash c.args.text.now inside)
