use Rattle.std.proofs.Common.{◌≡◌, ◌-◌, length, take, ap, sym, ◌∙◌, subst}
use Rattle.std.specs.Str.{IsCharBoundary}
use Rattle.liquid_grammar.proofs.TextLemmas.{IsCharBoundary-before_rest}
use Rattle.liquid_parser.proofs.Slices.{front_ends}
use Rattle.liquid_grammar.proofs.Exact.{front_of}
use Rattle.liquid_parser.proofs.reading.place.slice_between.Goals as goal

pub returns-in-Some : goal.returns-in-Some
returns-in-Some c text is =
    let middle : c.saturating_sub.result ≡ length c.args.place.now - length c.args.following.now = search in
    c.in-Some.ensures.front ∙ (ap (λ n. take n c.args.place.now) middle ∙ front_of c.args.place.now text c.args.following.now is)

pub returns-in-None : goal.returns-in-None
returns-in-None c text is =
    let middle : c.saturating_sub.result ≡ length c.args.place.now - length c.args.following.now = search in
    cc (c.in-None.ensures.variant.1 (subst (IsCharBoundary c.args.place.now) (sym middle)
    (IsCharBoundary-before_rest c.args.place.now c.args.following.now c.utf8.following
    (front_ends c.args.place.now text c.args.following.now is))))
