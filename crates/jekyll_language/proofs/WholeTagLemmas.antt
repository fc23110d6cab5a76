-- A string that is one tag, and what it is read as.
use Rattle.std.proofs.Common.{◌≡◌, ℕ, List, [], ◌∷◌, Option, Some, None, Result, Ok, Err, refl, sym, ap, ◌∙◌, subst, append-nil, option_map}
use Rattle.std.specs.Prelude.{codes, is_some, IfOk, IfSome, T, ok_or}
use Rattle.std.specs.Result.{result_ok}
use Rattle.liquid_error.specs.declared.error.Error.{Error}
use Rattle.liquid_error.specs.meaning.Refusal.{Refusal, ok_then}
use Rattle.liquid_error.specs.meaning.Told.{Gives, told}
use Rattle.liquid_grammar.specs.meaning.Cover.{Cover, Element, done, next, raw, tag_element, expression, invalid}
use Rattle.liquid_grammar.specs.meaning.Tokens as token
use Rattle.liquid_grammar.specs.meaning.Tokens.{TagRule}
use Rattle.liquid_grammar.proofs.CoverLemmas.{cover_of}
use Rattle.liquid_parser.proofs.TokenLemmas.{if_some_weaker}
use Rattle.liquid_parser.specs.declared.cursor.tag.Tag.{Tag}
use Rattle.liquid_parser.specs.meaning.Handed.{Tokens, handed}
use Rattle.liquid_parser.specs.meaning.Plugins.{AreTokens}
use Rattle.liquid_parser.specs.meaning.Reading.{refused_at}
use Rattle.liquid_parser.specs.meaning.WholeTag.{GivesTag, Refuses, WholeTag}
use Rattle.jekyll_language.specs.meaning.expressions.Reading.{of_tag, only_tag, tag_read}

-- the text is this tag, or no tag at all
abbrev Fits : List ℕ → Option token.Tag → Type 0
Fits s None = ¬ (WholeTag s)
Fits s (Some tag) = TagRule s [] tag

abbrev Only : List ℕ → List Element → Type 0
Only s es = (others : List Element) → Cover s others → others ≡ es

not_whole : (s : List ℕ) (es : List Element) → Only s es → only_tag es ≡ None → ¬ (WholeTag s)
not_whole s es only none w =
    let alone : Cover s (tag_element w.tag s ∷ []) = next (record { joined = sym (append-nil s); kind = w.match }) done in
    let same : Some w.tag ≡ None = ap only_tag (only (tag_element w.tag s ∷ []) alone) ∙ none in
    subst T (ap is_some same) tt

fits : (s : List ℕ) (es : List Element) → Cover s es → Only s es → Fits s (only_tag es)
fits s [] c only = not_whole s [] only refl
fits s (tag_element t x ∷ []) (next is done) only = is.kind
fits s (tag_element t x ∷ e ∷ es) c only = not_whole s (tag_element t x ∷ e ∷ es) only refl
fits s (raw x ∷ es) c only = not_whole s (raw x ∷ es) only refl
fits s (expression chain x ∷ es) c only = not_whole s (expression chain x ∷ es) only refl
fits s (invalid x ∷ es) c only = not_whole s (invalid x ∷ es) only refl

module _ {A : Type 0} (given : Tokens → Result A Refusal) (s : List ℕ) where
  -- what the text is read as, by the tag that it is
  abbrev read_as : Option token.Tag → Result A Refusal
  read_as o = ok_then (ok_or o (refused_at s (codes "Invalid liquid") s)) (of_tag given s)

  -- the tokens of the tag are read, or the refusal is that of the text
  abbrev pub IsRead : Result Tag Error → Result A Refusal → Type 0
  IsRead (Ok tag) read = (ts : Tokens) × AreTokens tag.tokens ts × (read ≡ given ts)
  IsRead (Err e) read = IfSome (told e) (λ r. read ≡ Err r)

  read_by : (o : Option token.Tag) → Fits s o → (result : Result Tag Error) → ((t : token.Tag) → TagRule s [] t → GivesTag result s t)
      → (¬ (WholeTag s) → Refuses result (refused_at s (codes "Invalid liquid") s)) → IsRead result (read_as o)
  read_by (Some t) fit (Ok tag) gives none =
      let g = gives t fit in (handed s t, g.1.tokens_are, ap (λ r. ok_then r (λ _. given (handed s t))) g.0)
  read_by (Some t) fit (Err e) gives none =
      if_some_weaker (told e) (λ r q. ap (λ r. ok_then r (λ _. given (handed s t))) q) (gives t fit)
  read_by None fit (Ok tag) gives none = absurd (none fit)
  read_by None fit (Err e) gives none = if_some_weaker (told e) (λ r q. ap (λ x. Err x) (sym q)) (none fit)

  pub tag_is_read : (result : Result Tag Error) → ((t : token.Tag) → TagRule s [] t → GivesTag result s t)
      → (¬ (WholeTag s) → Refuses result (refused_at s (codes "Invalid liquid") s)) → IsRead result (tag_read given s)
  tag_is_read result gives none =
      let c = cover_of s in read_by (only_tag c.elements) (fits s c.elements c.cover c.only) result gives none

-- what was read of a source, if it was read, by the string that a tag has after its name
pub read_of_source : {X M E : Type 0} (of : X → M) (given : Tokens → Result M Refusal) (tag : List ℕ → List ℕ) (inside source : List ℕ)
    (read : Result X Error) (result : Result (Option X) E) → source ≡ tag inside → Gives of read (tag_read given source)
    → IfOk result (λ o. (m : Result M Refusal) → Gives of read m → option_map of o ≡ result_ok m)
    → IfOk result (λ o. option_map of o ≡ result_ok (tag_read given (tag inside)))
read_of_source of given tag inside source read (Ok o) same gives each =
    each (tag_read given (tag inside)) (subst (λ s. Gives of read (tag_read given s)) same gives)
read_of_source of given tag inside source read (Err e) same gives each = each
