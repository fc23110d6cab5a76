-- The parts of a tag, one after another.
use Rattle.std.proofs.Common.{◌≡◌, ℕ, suc, ◌+◌, ◌-◌, ◌<◌, List, [], ◌∷◌, ◌++◌, length, replicate, refl, sym, ap, ◌∙◌, arith, append_assoc}
use Rattle.jekyll_source.specs.meaning.Splits.{Parts, is_white, is_word, split_dash, split_end_dash, split_end_run, split_run}
use Rattle.jekyll_source.specs.meaning.Tags.{Tag, fitted, named, shorter_end, shorter_start, tag_of}
use Rattle.std.specs.Str.{byte}

module _ (inner : List ℕ) (d l n : Parts) (dashed : d ≡ split_dash inner) (led : l ≡ split_run is_white d.1)
    (name : n ≡ split_run is_word l.1) where
  pub named_by_parts : n ≡ named inner
  named_by_parts = rw (name, led, dashed) refl

  pub tag_by_parts : (g e b : Parts) → g ≡ split_run is_white n.1 → e ≡ split_end_dash g.1 → b ≡ split_end_run is_white e.0
      → (let t : Tag = record { dash = d.0; lead = l.0; name = n.0; gap = g.0; body = b.0; tail = b.1; end_dash = e.1 } in t ≡ tag_of inner)
  tag_by_parts g e b gap ended tailed = rw (tailed, ended, gap, name, led, dashed) refl

-- one more space
pub space_more : (out whole : List ℕ) (b n i : ℕ) → i < n → out ++ replicate (n - i) b ≡ whole
    → (out ++ b ∷ []) ++ replicate (n - (i + 1)) b ≡ whole
space_more out whole b n i within held =
    let left : n - i ≡ suc (n - (i + 1)) = omega arith in
    append_assoc out (b ∷ []) (replicate (n - (i + 1)) b) ∙ ap (λ k. out ++ replicate k b) (sym left) ∙ held

-- a tag whose parts were appended one by one
pub fitted_parts : (tag : Tag) (new tail lead out a b c d e f g h : List ℕ) → tail ≡ shorter_end (length new - length tag.body) tag.tail
    → lead ≡ shorter_start (length new - length tag.body - (length tag.tail - length tail)) tag.lead
    → a ≡ out ++ tag.dash → b ≡ a ++ lead → c ≡ b ++ tag.name → d ≡ c ++ tag.gap → e ≡ d ++ new → f ≡ e ++ tail
    → g ≡ f ++ replicate (length tag.body - length new) (byte " ") → h ≡ g ++ tag.end_dash
    → h ≡ out ++ fitted tag new
fitted_parts tag new tail lead out a b c d e f g h tailed led first second third fourth fifth sixth seventh eighth =
    let spaces = replicate (length tag.body - length new) (byte " ") in
    eight out tag.dash lead tag.name tag.gap new tail spaces tag.end_dash a b c d e f g h first second third fourth fifth sixth seventh
    eighth
    ∙ ap (λ l. out ++ (tag.dash ++ (l ++ (tag.name ++ (tag.gap ++ (new ++ (tail ++ (spaces ++ tag.end_dash)))))))) led
    ∙ ap (λ t. out ++ (tag.dash ++ (shorter_start (length new - length tag.body - (length tag.tail - length t)) tag.lead
    ++ (tag.name ++ (tag.gap ++ (new ++ (t ++ (spaces ++ tag.end_dash)))))))) tailed
  where
    eight : (o s t u v w x y z a b c d e f g h : List ℕ) → a ≡ o ++ s → b ≡ a ++ t → c ≡ b ++ u → d ≡ c ++ v → e ≡ d ++ w → f ≡ e ++ x
        → g ≡ f ++ y → h ≡ g ++ z → h ≡ o ++ (s ++ (t ++ (u ++ (v ++ (w ++ (x ++ (y ++ z)))))))
    eight o s t u v w x y z a b c d e f g h first second third fourth fifth sixth seventh eighth =
        rw (eighth, seventh, sixth, fifth, fourth, third, second, first) (simp append_assoc)
