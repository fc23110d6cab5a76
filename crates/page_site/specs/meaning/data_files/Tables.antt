-- The value of TOML: each kind has its value, and a float and a date time have the text that TOML writes for them.
use Rattle.std.specs.Prelude.{◌≡◌, ◌⊎◌, ℕ, List, Ok, Err}
use Rattle.liquid_json.specs.meaning.decimals.Number.{number_given}
use Rattle.liquid_error.specs.meaning.Refusal.{Refusal}
use Rattle.liquid_scalar.specs.meaning.Scalar as scal
use Rattle.liquid_value.specs.meaning.Members.{put_member}
use Rattle.liquid_value.specs.meaning.Tree.{Tree, scalar, array, object, Items, no_items, item, Members, no_members}
use Rattle.toml.specs.Data as toml
use Rattle.toml_datetime.specs.Text.{datetime_text}
use Rattle.toml_writer.specs.Text.{IsFloatText}

abbrev mutual
  pub Given : toml.Data → Tree → Type 0
  Given (toml.string s) t = t ≡ scalar (scal.text s)
  Given (toml.integer n) t = t ≡ scalar (scal.integer n)
  Given (toml.float x) t = (s : List ℕ) × IsFloatText x s × (number_given s ≡ Ok t)
  Given (toml.boolean b) t = t ≡ scalar (scal.boolean b)
  Given (toml.datetime d) t = t ≡ scalar (scal.text (datetime_text d))
  Given (toml.array ds) t = (ts : Items) × ItemsGiven ds ts × (t ≡ array ts)
  Given (toml.table ms) t = (ts : Members) × MembersGiven ms no_members ts × (t ≡ object ts)

  pub ItemsGiven : toml.Items → Items → Type 0
  ItemsGiven toml.no_items ts = ts ≡ no_items
  ItemsGiven (toml.item d ds) ts = (first : Tree) × (rest : Items) × Given d first × ItemsGiven ds rest × (ts ≡ item first rest)

  -- the members are put into those before them
  pub MembersGiven : toml.Members → Members → Members → Type 0
  MembersGiven toml.no_members found ts = ts ≡ found
  MembersGiven (toml.member key d ms) found ts = (t : Tree) × Given d t × MembersGiven ms (put_member key t found) ts

-- the refusal of one of the floats
abbrev mutual
  pub Refused : toml.Data → Refusal → Type 0
  Refused (toml.float x) r = (s : List ℕ) × IsFloatText x s × (number_given s ≡ Err r)
  Refused (toml.array ds) r = ItemsRefused ds r
  Refused (toml.table ms) r = MembersRefused ms r
  Refused (toml.string s) r = ⊥
  Refused (toml.integer n) r = ⊥
  Refused (toml.boolean b) r = ⊥
  Refused (toml.datetime d) r = ⊥

  pub ItemsRefused : toml.Items → Refusal → Type 0
  ItemsRefused toml.no_items r = ⊥
  ItemsRefused (toml.item d ds) r = Refused d r ⊎ ItemsRefused ds r

  pub MembersRefused : toml.Members → Refusal → Type 0
  MembersRefused toml.no_members r = ⊥
  MembersRefused (toml.member key d ms) r = Refused d r ⊎ MembersRefused ms r
