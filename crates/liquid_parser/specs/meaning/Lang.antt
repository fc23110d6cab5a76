-- What a language gives to the reading: its filters, tags and blocks, each by its name, as functions of what they are
-- given.
use Rattle.std.specs.Prelude.{ℕ, Bool, List, Option, Result, codes}
use Rattle.std.specs.List.{join_by}
use Rattle.liquid_error.specs.meaning.Refusal.{Refusal}
use Rattle.liquid_plugins.specs.meaning.ArgumentsOf.{Arguments}
use Rattle.liquid_parser.specs.meaning.Handed.{Tokens}

-- plug-ins by their registered names, which are in byte order
pub record Registry (A : Type 0) : Type 0 where
  pub get : List ℕ → Option A
  pub names : List (List ℕ)

-- a filter of shape F is made from its arguments
abbrev pub Filters : Type 0 → Type 0
Filters F = Registry (Arguments → Result F Refusal)

-- what a block is given at its end: the number of its parts, or the text of its escaped body
pub data Body : Type 0 where
  parts : ℕ → Body
  escaped : List ℕ → Body

-- what a block means, over filters of shape F: P is what it plans while it is read, B what it has become at its end
pub record BlockMeaning (F P B : Type 0) : Type 0 where
  pub dividers : List (List ℕ)
  pub escapes : Bool
  pub nests : Bool
  pub begin : Filters F → Tokens → Result P Refusal
  pub divide : P → List ℕ → Tokens → Result P Refusal
  pub finish : P → Body → Result B Refusal

-- the names of a block's start tag and end tag
pub record BlockNames : Type 0 where
  pub start_name : List ℕ
  pub end_name : List ℕ

-- a block: its names and what it means
pub record Block (F P B : Type 0) : Type 0 where
  pub names : BlockNames
  pub means : BlockMeaning F P B

-- a language whose filters, tags, plans and blocks have these shapes
pub record Lang (F T P B : Type 0) : Type 0 where
  pub filters : Filters F
  pub tags : Registry (Filters F → Tokens → Result T Refusal)
  pub blocks : Registry (Block F P B)

-- names joined by `, `
abbrev pub listed : List (List ℕ) → List ℕ
listed = join_by (λ name. name) (codes ", ")
