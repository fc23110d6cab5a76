-- What a tag says, with its name in this engine's grammar.
use Rattle.std.proofs.Common.{◌≡◌, ℕ, Bool, true, false, cond, List, ◌++◌, Option, Some, None, take, drop, refl, sym, ap, ◌∙◌}
use Rattle.std.specs.Option.{option_and_then, option_map, unwrap_or}
use Rattle.jekyll_source.specs.meaning.Names.{written_name}
use Rattle.jekyll_source.specs.meaning.Rewriting.{has_name, name_len_of, new_body, written_rest}
use Rattle.jekyll_source.specs.meaning.Splits.{Parts, split_at}

module _ (tag body : List ℕ) where
  pub no_name : has_name tag body ≡ false → None ≡ new_body tag body
  no_name e = sym (ap (λ t. cond t (option_and_then (λ n. option_map (λ name. name ++ written_rest tag (drop n body))
      (written_name (take n body))) (name_len_of tag body)) None) e)

  module _ (has : has_name tag body ≡ true) where
    opens : new_body tag body ≡ option_and_then (λ n. option_map (λ name. name ++ written_rest tag (drop n body))
        (written_name (take n body))) (name_len_of tag body)
    opens = ap (λ t. cond t (option_and_then (λ n. option_map (λ name. name ++ written_rest tag (drop n body))
        (written_name (take n body))) (name_len_of tag body)) None) has

    pub no_end : (let p : Option Parts = None in p ≡ option_map (λ n. split_at n body) (name_len_of tag body)) → None ≡ new_body tag body
    no_end e = go (name_len_of tag body) e ∙ sym opens
      where
        go : (o : Option ℕ) → (let p : Option Parts = None in p ≡ option_map (λ n. split_at n body) o)
            → None ≡ option_and_then (λ n. option_map (λ name. name ++ written_rest tag (drop n body)) (written_name (take n body))) o
        go None h = refl
        go (Some n) h = absurd (cc)

    module _ (name rest : List ℕ)
        (parted : (let p : Option Parts = Some (name, rest) in p ≡ option_map (λ n. split_at n body) (name_len_of tag body))) where
      named : new_body tag body ≡ option_map (λ w. w ++ written_rest tag rest) (written_name name)
      named = opens ∙ go (name_len_of tag body) parted
        where
          go : (o : Option ℕ) → (let p : Option Parts = Some (name, rest) in p ≡ option_map (λ n. split_at n body) o)
              → option_and_then (λ n. option_map (λ w. w ++ written_rest tag (drop n body)) (written_name (take n body))) o
              ≡ option_map (λ w. w ++ written_rest tag rest) (written_name name)
          go None h = absurd (cc)
          go (Some n) h =
              let front : take n body ≡ name = ap (λ (o : Option Parts). (unwrap_or o (name, rest)).0) (sym h) in
              let back : drop n body ≡ rest = ap (λ (o : Option Parts). (unwrap_or o (name, rest)).1) (sym h) in
              ap (λ r. option_map (λ w. w ++ written_rest tag r) (written_name (take n body))) back
              ∙ ap (λ m. option_map (λ w. w ++ written_rest tag rest) (written_name m)) front

      pub unwritable : None ≡ written_name name → None ≡ new_body tag body
      unwritable e = ap (option_map (λ w. w ++ written_rest tag rest)) e ∙ sym named

      pub new_written : (written new : List ℕ) → Some written ≡ written_name name → new ≡ written ++ written_rest tag rest
          → Some new ≡ new_body tag body
      new_written written new e grown = ap Some grown ∙ ap (option_map (λ w. w ++ written_rest tag rest)) e ∙ sym named
