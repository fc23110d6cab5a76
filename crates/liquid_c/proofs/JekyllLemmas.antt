-- Texts of Jekyll as they are read, and a page of them.
use Rattle.std.proofs.Common.{◌≡◌, ◌∙◌, ℕ, List, Bool, true, false, Result, Ok, Err, IfOk, refl, ap, sym, subst}
use Rattle.std.specs.Prelude.{if◌then◌else◌}
use Rattle.std.specs.Str.{IsUtf8, is_utf8}
use Rattle.std.proofs.lemmas.Str.{IsUtf8-from_is_utf8, is_utf8-from_IsUtf8}
use Rattle.liquid_parser.specs.meaning.Lang.{Lang}
use Rattle.liquid_pages.specs.declared.options.PageOptions.{PageOptions}
use Rattle.liquid_pages.specs.meaning.Pages.{Settings}
use Rattle.liquid_pages.specs.meaning.Shown.{ComesTo, NameAndText, Page}
use Rattle.jekyll_source.specs.meaning.Pieces.{jekyll_text}
use Rattle.liquid_c.specs.meaning.Jekyll.{text_as_read}

if_not : (b : Bool) (xs ys : List ℕ) → ¬ (b ≡ true) → ys ≡ (if b then xs else ys)
if_not true xs ys never = absurd (never refl)
if_not false xs ys never = refl

-- a text, and bytes that are none
pub text_read : (bytes written read : List ℕ) → written ≡ bytes → IsUtf8 bytes → read ≡ jekyll_text written → read ≡ text_as_read bytes
text_read bytes written read is valid reads =
    reads ∙ ap jekyll_text is
    ∙ sym (ap (λ (b : Bool). if b then jekyll_text bytes else bytes) (is_utf8-from_IsUtf8 bytes valid))

pub bytes_read : {V E : Type 0} (items : V → List ℕ) (r : Result V E) (bytes : List ℕ) → ¬ (IsUtf8 bytes)
    → IfOk r (λ v. items v ≡ bytes) → IfOk r (λ v. items v ≡ text_as_read bytes)
bytes_read items (Ok v) bytes invalid same =
    same ∙ if_not (is_utf8 bytes) (jekyll_text bytes) bytes (λ valid. invalid (IsUtf8-from_is_utf8 bytes valid))
bytes_read items (Err e) bytes invalid same = tt

-- a page of texts that are what others are read as
pub comes_as_read : {Reg F T P L B Q : Type 0} (s : Settings Reg F T P B Q) (l : Lang F T L B) (options : PageOptions) (globals : List ℕ)
    (page : Page) (text read : List ℕ) (partials others : List NameAndText) → text ≡ read → others ≡ partials
    → ComesTo s l options read globals partials page → ComesTo s l options text globals others page
comes_as_read s l options globals page text read partials others is are comes =
    subst (λ t. ComesTo s l options t globals others page) (sym is)
    (subst (λ ps. ComesTo s l options read globals ps page) (sym are) comes)
