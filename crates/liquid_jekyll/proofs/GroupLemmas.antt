-- The first keys of groups, and the members of a group.
use Rattle.std.proofs.Common.{◌≡◌, true, false, List, [], ◌∷◌, ◌++◌, map}
use Rattle.std.proofs.Common.{String, Global, sym, ap, ◌∙◌, append_assoc, string_bytes, string_cmp}
use Rattle.std.specs.Borrow.{Bor}
use Rattle.std.specs.BTreeMap.{insert_entry}
use Rattle.std.specs.List.Sorted.{IsPermutation}
use Rattle.liquid_value.specs.declared.value.Value.{Value}
use Rattle.liquid_value.specs.meaning.Members.{put_member}
use Rattle.liquid_value.specs.meaning.Tree.{Tree}
use Rattle.liquid_value.specs.meaning.View.{view, members_view}
use Rattle.liquid_value.proofs.Entries.{Entry, members_view-insert_entry}
use Rattle.liquid_filters.specs.meaning.list.Choices.{distinct, keys_of}
use Rattle.liquid_filters.proofs.DistinctLemmas.{is_seen, unseen, unseen-new, unseen-old, unseen-none}

pub inserted : (es : List Entry) (k : String Global) (v : Value)
    → members_view (insert_entry string_cmp es k v) ≡ put_member (string_bytes k) (view v) (members_view es)
inserted es k v = members_view-insert_entry es k v

-- before the first entry nothing was kept and nothing was seen
pub keys-start : (kept : List (Bor Value)) (keys : List (Bor Value)) (es : List (Tree × Tree)) → kept ≡ [] → keys ≡ []
    → map (λ r. view r.now) kept ++ keys_of (unseen keys (distinct es)) ≡ keys_of (distinct es)
keys-start kept keys es none unread =
    ap (λ l. map (λ r. view r.now) l ++ keys_of (unseen keys (distinct es))) none ∙ ap (λ l. keys_of (unseen l (distinct es))) unread
    ∙ ap keys_of (unseen-none (distinct es))

-- a new key is kept
pub keys-new : (kept after : List Tree) (keys more : List (Bor Value)) (k : Bor Value) (e : Tree × Tree)
    (es : List (Tree × Tree)) (all : List Tree) → after ≡ kept ++ e.0 ∷ [] → IsPermutation (k ∷ keys) more → view k.now ≡ e.0
    → is_seen keys e.0 ≡ false → kept ++ keys_of (unseen keys (distinct (e ∷ es))) ≡ all
    → after ++ keys_of (unseen more (distinct es)) ≡ all
keys-new kept after keys more k e es all pushed moved key new so_far =
    ap (λ l. l ++ keys_of (unseen more (distinct es))) pushed ∙ append_assoc kept (e.0 ∷ []) _
    ∙ ap (λ l. kept ++ keys_of l) (sym (unseen-new keys more k e es moved key new)) ∙ so_far

-- a key that was seen is skipped
pub keys-old : (kept : List Tree) (keys more : List (Bor Value)) (e : Tree × Tree) (es : List (Tree × Tree)) (all : List Tree)
    → more ≡ keys → is_seen keys e.0 ≡ true → kept ++ keys_of (unseen keys (distinct (e ∷ es))) ≡ all
    → kept ++ keys_of (unseen more (distinct es)) ≡ all
keys-old kept keys more e es all same seen so_far =
    ap (λ l. kept ++ keys_of (unseen l (distinct es))) same ∙ ap (λ l. kept ++ keys_of l) (sym (unseen-old keys e es seen)) ∙ so_far
