-- The plug-ins that a language has under a name.
use Rattle.std.proofs.Common.{◌≡◌, ℕ, Bool, true, false, cond, List, [], ◌∷◌, Option, Some, None, refl, sym, ap, ◌∙◌}
use Rattle.std.specs.Cmp.Lexicographic.{slice_cmp, nat_list_cmp_total}
use Rattle.std.specs.FinMap.{empty, get, insert, get-empty, get-insert}
use Rattle.std.specs.Ordering.{nat_cmp}
use Rattle.std.specs.Str.{bytes_eq}
use Rattle.std.proofs.lemmas.Map.Text.{is_eq-slice_cmp}
use Rattle.std.proofs.lemmas.Slice.Eq.{bytes_eq-Decides}
use Rattle.liquid_runtime.specs.meaning.Maps.{NameMap}
use Rattle.liquid_tags.specs.declared.block_plugins.Blocks.{Blocks}
use Rattle.liquid_tags.specs.declared.block_plugins.Blocks.TheVariants.{If, For, Raw}
use Rattle.liquid_tags.specs.declared.tag_plugins.Tags.{Tags}
use Rattle.liquid_tags.specs.declared.tag_plugins.Tags.TheVariants.{Assign, Increment, Break, Continue, Include, Render}
use Rattle.liquid_tags.specs.meaning.BlockPlugins as library_block
use Rattle.liquid_tags.specs.meaning.Languages as library
use Rattle.liquid_tags.specs.meaning.Languages.{under_names}
use Rattle.liquid_tags.specs.meaning.TagPlugins as library_tag
use Rattle.liquid_std.specs.declared.conditions.equality.Equality.TheVariants.{Loose}
use Rattle.liquid_std.specs.declared.iteration.scalars.OverScalar.TheVariants.{Refused}
use Rattle.liquid_std.specs.declared.block_plugins.StdBlocks.{StdBlocks}
use Rattle.liquid_std.specs.declared.block_plugins.StdBlocks.TheVariants as block
use Rattle.liquid_std.specs.declared.tag_plugins.StdTags.{StdTags}
use Rattle.liquid_std.specs.declared.tag_plugins.StdTags.TheVariants as tag
use Rattle.liquid_std.specs.meaning.BlockPlugins.{start_of}
use Rattle.liquid_std.specs.meaning.Languages.{the_blocks, the_tags}
use Rattle.liquid_std.specs.meaning.TagPlugins.{tag_name}

module _ {P : Type 0} (name_of : P → List ℕ) (q : List ℕ) where
  -- the last of some plug-ins with the name q; without one, this other one
  abbrev last_named : Option P → List P → Option P
  last_named before [] = before
  last_named before (p ∷ ps) = last_named (cond (bytes_eq q (name_of p)) (Some p) before) ps

  found : (before : NameMap P) (ps : List P) → get (under_names name_of before ps) q ≡ last_named (get before q) ps
  found before [] = refl
  found before (p ∷ ps) =
      found (insert before (name_of p) p) ps
      ∙ ap (λ o. last_named o ps) (get-insert nat_list_cmp_total before (name_of p) p q
      ∙ ap (λ b. cond b (Some p) (get before q)) (is_eq-slice_cmp q (name_of p)))

  found_in : (ps : List P) → get (under_names name_of empty ps) q ≡ last_named None ps
  found_in ps = found empty ps ∙ ap (λ o. last_named o ps) (get-empty (slice_cmp nat_cmp) q)

  named_or : (b : Bool) (p r : P) (before : Option P) → bytes_eq q (name_of p) ≡ b → ((s : P) → before ≡ Some s → q ≡ name_of s)
      → cond b (Some p) before ≡ Some r → q ≡ name_of r
  named_or true p r before same named is =
      let at : p ≡ r = cc is in
      (bytes_eq-Decides q (name_of p)).0 same ∙ ap name_of at
  named_or false p r before same named is = named r is

  named : (before : Option P) (ps : List P) (r : P) → ((s : P) → before ≡ Some s → q ≡ name_of s) → last_named before ps ≡ Some r
      → q ≡ name_of r
  named before [] r is_named is = is_named r is
  named before (p ∷ ps) r is_named is =
      named (cond (bytes_eq q (name_of p)) (Some p) before) ps r (λ s. named_or (bytes_eq q (name_of p)) p s before refl is_named) is

none_some : {P : Type 0} {A : Type 0} (s : P) → let none : Option P = None in none ≡ Some s → A
none_some s e = cc e

-- a plug-in that a language has under a name has that name
pub tag_named : (q : List ℕ) (p : Tags) → get library.the_tags q ≡ Some p → q ≡ library_tag.tag_name p
tag_named q p is =
    let all : List Tags = Assign ∷ Increment ∷ Break ∷ Continue ∷ Include ∷ Render ∷ [] in
    named library_tag.tag_name q None all p (λ s e. none_some s e) (sym (found_in library_tag.tag_name q all) ∙ is)

pub block_named : (q : List ℕ) (b : Blocks) → get library.the_blocks q ≡ Some b → q ≡ library_block.start_of b
block_named q b is =
    let all : List Blocks = If ∷ For ∷ Raw ∷ [] in
    named library_block.start_of q None all b (λ s e. none_some s e) (sym (found_in library_block.start_of q all) ∙ is)

-- the standard block with the name of one of the library
abbrev pub standard_block : Blocks → StdBlocks
standard_block If = block.If Loose
standard_block For = block.For Refused
standard_block Raw = block.Raw

abbrev std_tags : List StdTags
std_tags =
    tag.Library Assign ∷ tag.Library Increment ∷ tag.Library Break ∷ tag.Library Continue ∷ tag.Library Include ∷ tag.Library Render
    ∷ tag.Decrement ∷ tag.Echo ∷ tag.Cycle ∷ []

abbrev std_blocks : List StdBlocks
std_blocks =
    block.If Loose ∷ block.Unless Loose ∷ block.Case Loose ∷ block.For Refused ∷ block.Tablerow ∷ block.Capture ∷ block.Ifchanged
    ∷ block.Comment ∷ block.Raw ∷ []

own_tag : (p : Tags) → last_named tag_name (library_tag.tag_name p) None std_tags ≡ Some (tag.Library p)
own_tag Assign = refl
own_tag Increment = refl
own_tag Break = refl
own_tag Continue = refl
own_tag Include = refl
own_tag Render = refl

no_tag : (b : Blocks) → last_named tag_name (library_block.start_of b) None std_tags ≡ None
no_tag If = refl
no_tag For = refl
no_tag Raw = refl

own_block : (b : Blocks) → last_named start_of (library_block.start_of b) None std_blocks ≡ Some (standard_block b)
own_block If = refl
own_block For = refl
own_block Raw = refl

-- under the name of a tag of the library the standard language has that tag
pub tag_kept : (q : List ℕ) (p : Tags) → q ≡ library_tag.tag_name p → get the_tags q ≡ Some (tag.Library p)
tag_kept q p is = found_in tag_name q std_tags ∙ ap (λ n. last_named tag_name n None std_tags) is ∙ own_tag p

-- under the name of a block of the library it has no tag, and its own block
pub tag_free : (q : List ℕ) (b : Blocks) → q ≡ library_block.start_of b → get the_tags q ≡ None
tag_free q b is = found_in tag_name q std_tags ∙ ap (λ n. last_named tag_name n None std_tags) is ∙ no_tag b

pub block_kept : (q : List ℕ) (b : Blocks) → q ≡ library_block.start_of b → get the_blocks q ≡ Some (standard_block b)
block_kept q b is = found_in start_of q std_blocks ∙ ap (λ n. last_named start_of n None std_blocks) is ∙ own_block b
