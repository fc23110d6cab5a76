-- Requests, one after another.
use Rattle.std.proofs.Common.{◌≡◌, ◌∙◌, List, [], ◌∷◌, ◌++◌, Bool, true, false}
use Rattle.std.proofs.Common.{None, Some, refl, sym, ap, append_assoc, append-nil, true≢false}
use Rattle.liquid_files.specs.meaning.Files.{Request, Requests, also}
use Rattle.page_site.specs.meaning.Requested.{Follows}

also_nothing : (before : Requests) → before ≡ also before []
also_nothing None = refl
also_nothing (Some made) = ap Some (sym (append-nil made))

also_more : (before : Requests) (first second : List Request) → also (also before first) second ≡ also before (first ++ second)
also_more None first second = refl
also_more (Some made) first second = ap Some (append_assoc made first second)

no_more : (xs : List Request) → xs ++ [] ≡ xs
no_more = append-nil

-- nothing was requested, and something failed
pub follows_nothing : (all : List Request) (before after : Requests) (done : Bool) → done ≡ false → after ≡ before
    → Follows all before after done
follows_nothing all before after done failed same =
    ([], all, same ∙ also_nothing before, refl, λ yes. absurd (true≢false (sym yes ∙ failed)))

-- one request was made, whether it failed or not
pub follows_one : (request : Request) (before after : Requests) (done : Bool) → after ≡ also before (request ∷ [])
    → Follows (request ∷ []) before after done
follows_one request before after done made = (request ∷ [], [], made, refl, λ _. refl)

-- some of these, after which something failed
pub follows_failed : (all : List Request) (before after : Requests) (any done : Bool) → done ≡ false → Follows all before after any
    → Follows all before after done
follows_failed all before after any done failed (made, rest, is, whole, _) =
    (made, rest, is, whole, λ yes. absurd (true≢false (sym yes ∙ failed)))

-- all of these, then some of those
pub follows_then : (first second : List Request) (before between after : Requests) (done : Bool) → Follows first before between true
    → Follows second between after done → Follows (first ++ second) before after done
follows_then first second before between after done (made, rest, is, all, whole) (more, left, next, others, whole_too) =
    let is_whole : made ≡ first = sym (no_more made) ∙ ap (λ r. made ++ r) (sym (whole refl)) ∙ all in (
      made ++ more,
      left,
      next ∙ ap (λ b. also b more) is ∙ also_more before made more,
      append_assoc made more left ∙ ap (λ xs. made ++ xs) others ∙ ap (λ xs. xs ++ second) is_whole,
      whole_too,
    )

-- some of these, after which something failed
pub follows_stop : (first second : List Request) (before after : Requests) (any done : Bool) → done ≡ false
    → Follows first before after any → Follows (first ++ second) before after done
follows_stop first second before after any done failed (made, rest, is, all, whole) = (
  made,
  rest ++ second,
  is,
  sym (append_assoc made rest second) ∙ ap (λ xs. xs ++ second) all,
  λ yes. absurd (true≢false (sym yes ∙ failed)),
)

-- the requests before the rest were made
abbrev pub Reaching : List Request → List Request → Requests → Requests → Type 0
Reaching all rest before now = (made : List Request) × (now ≡ also before made) × (made ++ rest ≡ all)

pub reaching_next : (all : List Request) (request : Request) (rest : List Request) (before now after : Requests)
    → Reaching all (request ∷ rest) before now → after ≡ also now (request ∷ []) → Reaching all rest before after
reaching_next all request rest before now after (made, is, whole) next = (
  made ++ request ∷ [],
  next ∙ ap (λ b. also b (request ∷ [])) is ∙ also_more before made (request ∷ []),
  append_assoc made (request ∷ []) rest ∙ whole,
)

pub reaching_stop : (all rest : List Request) (before now : Requests) (done : Bool) → done ≡ false → Reaching all rest before now
    → Follows all before now done
reaching_stop all rest before now done failed (made, is, whole) = (made, rest, is, whole, λ yes. absurd (true≢false (sym yes ∙ failed)))
