-- Why a file is not read, and why a text has no page.
use Rattle.std.specs.Prelude.{ℕ, List, Option, IfSome}
use Rattle.liquid_value.specs.meaning.Tree.{Members}
use Rattle.page_site.specs.declared.fault.SiteFault.{SiteFault}
use Rattle.page_site.specs.declared.fault.SiteFault.TheVariants.{Unreadable, NoText, Page, Unwritable, OwnFile}
use Rattle.page_site.specs.meaning.Answers.{Answers}
use Rattle.page_site.specs.meaning.Faults.{trouble_of}
use Rattle.page_site.specs.meaning.Items.{MayFail}
use Rattle.page_site.specs.meaning.Layouts.{HasTrouble}

-- a file can't be read, or memory ran out
abbrev pub IsUnread : SiteFault → Option (Option (List ℕ)) → Type 0
IsUnread (Unreadable path) known = MayFail known
IsUnread (Page fault) known = IfSome (trouble_of fault) (λ trouble. ⊥)
IsUnread (NoText path) known = ⊥
IsUnread (Unwritable path) known = ⊥
IsUnread (OwnFile path) known = ⊥

-- the page of a text has trouble, or memory ran out
abbrev pub IsTroubled : Answers → (List ℕ → Option (List ℕ)) → Members → List ℕ → SiteFault → Type 0
IsTroubled answers partials names text (Page fault) = IfSome (trouble_of fault) (HasTrouble answers partials names text)
IsTroubled answers partials names text (Unreadable path) = ⊥
IsTroubled answers partials names text (NoText path) = ⊥
IsTroubled answers partials names text (Unwritable path) = ⊥
IsTroubled answers partials names text (OwnFile path) = ⊥
