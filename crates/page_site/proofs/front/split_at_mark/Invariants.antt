use Rattle.std.proofs.Common.{◌≡◌, ℕ, drop, length}
use denote.Shadow.{shadow}
use denote.Text.{Utf8}
use Rattle.page_site.proofs.front.split_at_mark.Given as goal

abbrev pub decreases-loop-line : goal.decreases-loop-line
decreases-loop-line l = length l.left

abbrev pub invariant-loop-line : goal.invariant-loop-line
invariant-loop-line l = record {
  left : (count : ℕ) × (l.left ≡ drop count l.fn.text);
  utf8 : shadow (Utf8 l.left);
}
