-- One turn of a walk over pairs.
use Rattle.std.proofs.Common.{◌≡◌, ℕ, ◌+◌, ◌<◌, List, Bor, length, drop, get_or, ap, ◌∙◌, add-one}
use Rattle.std.proofs.Math.Seq.{drop-cons}
use Rattle.liquid_value.specs.meaning.Members.{put_member}
use Rattle.liquid_value.specs.meaning.Tree.{Tree, Members}
use Rattle.liquid_views.specs.meaning.Pairs.{put_pairs}

pub pairs_turn : {V : Type 0} (tree : V → Tree) (ps : List (Bor (List ℕ) × V)) (i : ℕ) (p : Bor (List ℕ) × V) (ms : Members) → i < length ps
    → p ≡ get_or ps i p
    → put_pairs tree (drop i ps) ms ≡ put_pairs tree (drop (i + 1) ps) (put_member p.0.now (tree p.1) ms)
pairs_turn tree ps i p ms within is = ap (λ rest. put_pairs tree rest ms) (drop-cons ps i p within) ∙ rw (add-one, ← is)
