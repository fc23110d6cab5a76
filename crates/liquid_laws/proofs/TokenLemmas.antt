-- What the tokens of the library's blocks make in the standard language.
use Rattle.std.proofs.Common.{
  ◌≡◌,
  ℕ,
  Bool,
  true,
  false,
  cond,
  List,
  [],
  ◌∷◌,
  ◌++◌,
  codes,
  map,
  Option,
  Some,
  None,
  option_map,
  Result,
  Ok,
  Err,
  refl,
  sym,
  ap,
  ◌∙◌,
}
use Rattle.std.specs.Prelude.{◌||◌}
use Rattle.std.specs.Str.{bytes_eq}
use Rattle.std.proofs.lemmas.List.{map-append}
use Rattle.std.proofs.lemmas.Slice.Eq.{bytes_eq-Decides}
use Rattle.std.specs.List.{list_any}
use Rattle.liquid_error.specs.declared.place.Place.{Place}
use Rattle.liquid_error.specs.meaning.Refusal.{Refusal, ok_then}
use Rattle.liquid_parser.specs.meaning.Cursors.{expect_str}
use Rattle.liquid_parser.specs.meaning.Handed.{Token, Tokens, expect_identifier, expect_value, none_left, or_unexpected}
use Rattle.liquid_plugins.specs.meaning.Expression.{ExpressionShape}
use Rattle.liquid_tags.specs.declared.blocks.BlockShape.{BlockShape}
use Rattle.liquid_tags.specs.declared.blocks.BlockShape.TheVariants as node
use Rattle.liquid_tags.specs.declared.block_plugins.Blocks.{Blocks}
use Rattle.liquid_tags.specs.declared.block_plugins.Blocks.TheVariants.{If, For, Raw}
use Rattle.liquid_tags.specs.declared.block_plugins.PlanShape.{PlanShape}
use Rattle.liquid_tags.specs.declared.for_block.series.SeriesShape.{SeriesShape}
use Rattle.liquid_tags.specs.declared.if_block.condition.Comparison.{Comparison}
use Rattle.liquid_tags.specs.declared.if_block.condition.ConditionShape.{ConditionShape}
use Rattle.liquid_tags.specs.declared.if_block.condition.ConditionShape.TheVariants.{Holds, Compares}
use Rattle.liquid_tags.specs.meaning.Asked.{alone, next_as}
use Rattle.liquid_tags.specs.meaning.BlockPlugins as library
use Rattle.liquid_tags.specs.meaning.BlockPlugins.{expect_series}
use Rattle.liquid_tags.specs.meaning.ConditionsGiven as asked
use Rattle.liquid_tags.specs.meaning.ConditionsGiven.{comparison_of}
use Rattle.liquid_std.specs.declared.conditions.condition.ConditionShape as standard
use Rattle.liquid_std.specs.declared.conditions.condition.Operator.TheVariants as operator
use Rattle.liquid_std.specs.declared.conditions.condition.TestShape.TheVariants as test
use Rattle.liquid_std.specs.declared.conditions.equality.Equality.TheVariants.{Loose}
use Rattle.liquid_std.specs.meaning.conditions.ConditionsGiven.{
  after_test,
  after_value,
  condition_given,
  from_second,
  from_value,
  joined_by,
  operator_of,
}
use Rattle.liquid_std.specs.declared.iteration.loops.LoopShape.{LoopShape}
use Rattle.liquid_std.specs.declared.iteration.options.LoopBlock.TheVariants as loop
use Rattle.liquid_std.specs.declared.iteration.options.OptionsShape.{OptionsShape}
use Rattle.liquid_std.specs.declared.iteration.scalars.OverScalar.TheVariants.{Refused}
use Rattle.liquid_std.specs.meaning.iteration.OptionsGiven.{no_options, options_from}
use Rattle.liquid_std.specs.declared.blocks.StdBlockShape.{StdBlockShape}
use Rattle.liquid_std.specs.declared.blocks.StdBlockShape.TheVariants as shape
use Rattle.liquid_std.specs.declared.block_plugins.StdPlanShape.{StdPlanShape}
use Rattle.liquid_std.specs.meaning.BlockPlugins.{begun, divided, node_divided}
use Rattle.liquid_laws.specs.meaning.superset.Images.{block_image, condition_image}
use Rattle.liquid_laws.proofs.NameLemmas.{standard_block}

-- what a result that is passed on was made from
pub made_from : {A B : Type 0} (r : Result A Refusal) (k : A → Result B Refusal) (y : B) → ok_then r k ≡ Ok y → (x : A) × (r ≡ Ok x)
    × (k x ≡ Ok y)
made_from (Ok x) k y is = (x, refl, is)
made_from (Err refusal) k y is = cc is

pub same_value : {A : Type 0} (x y : A) → let r : Result A Refusal = Ok x in r ≡ Ok y → x ≡ y
same_value x y is = cc is

no_comparison : (text : List ℕ) (op : Comparison) (b : Bool) → comparison_of text ≡ Some op → bytes_eq text (codes "contains") ≡ b
    → b ≡ false
no_comparison text op false is same = refl
no_comparison text op true is same =
    let none : comparison_of text ≡ None = ap comparison_of ((bytes_eq-Decides text (codes "contains")).0 same) in
    let differ : None ≡ Some op = sym none ∙ is in
    cc differ

-- a comparison is the same operator
same_operator : (text : List ℕ) (op : Comparison) → comparison_of text ≡ Some op → operator_of text ≡ Some (operator.Compares op)
same_operator text op is =
    let other = option_map (λ (comparison : Comparison). operator.Compares comparison) (comparison_of text) in
    ap (λ b. cond b (Some operator.Contains) other) (no_comparison text op (bytes_eq text (codes "contains")) is refl)
    ∙ ap (option_map (λ (comparison : Comparison). operator.Compares comparison)) is

abbrev tokens : Token → List Token → Tokens
tokens t more = record { following = t.following; left = more }

-- a value that is read, and the tokens after it
abbrev valued : Token → List Token → ExpressionShape → Result (ExpressionShape × Tokens) Refusal
valued t more x = Ok (x, tokens t more)

-- what the library makes of the tokens after a value, and of those after a comparison
abbrev after_value_asked : ExpressionShape × Tokens → Result ConditionShape Refusal
after_value_asked value = asked.following_value value.0 value.1.left

abbrev compared : ExpressionShape → Comparison → ExpressionShape × Tokens → Result ConditionShape Refusal
compared e op value = alone (Compares e op value.0) value.1

no_more : (e x : ExpressionShape) (op : Comparison) (ts : List Token) (place : Place) (c : ConditionShape)
    → alone (Compares e op x) (record { following = place; left = ts }) ≡ Ok c
    → after_test (test.Passes e (operator.Compares op) x) ts ≡ Ok (condition_image c)
no_more e x op [] place c is = ap (λ d. Ok (condition_image d)) (same_value (Compares e op x) c is)
no_more e x op (t ∷ ts) place c is = cc is

second_of : (e : ExpressionShape) (op : Comparison) (t : Token) (more : List Token) (r : Result ExpressionShape Refusal)
    (c : ConditionShape)
    → ok_then (ok_then r (valued t more)) (compared e op) ≡ Ok c
    → ok_then r (λ x. after_test (test.Passes e (operator.Compares op) x) more) ≡ Ok (condition_image c)
second_of e op t more (Ok x) c is = no_more e x op more t.following c is
second_of e op t more (Err refusal) c is = cc is

second : (e : ExpressionShape) (op : Comparison) (place : Place) (ts : List Token) (c : ConditionShape)
    → ok_then (next_as expect_value (record { following = place; left = ts })) (compared e op) ≡ Ok c
    → from_second e (operator.Compares op) place ts ≡ Ok (condition_image c)
second e op place [] c is = cc is
second e op place (t ∷ more) c is = second_of e op t more (or_unexpected t (expect_value t)) c is

given_back : (t : Token) (o : Option Comparison) (op : Comparison) → or_unexpected t o ≡ Ok op → o ≡ Some op
given_back t None op is = cc is
given_back t (Some p) op is = ap Some (same_value p op is)

after_first : (e : ExpressionShape) (ts : List Token) (c : ConditionShape) → asked.following_value e ts ≡ Ok c
    → after_value e ts ≡ Ok (condition_image c)
after_first e [] c is = ap (λ d. Ok (condition_image d)) (same_value (Holds e) c is)
after_first e (t ∷ more) c is =
    let read =
    made_from (or_unexpected t (comparison_of t.text)) (λ op. ok_then (next_as expect_value (tokens t more)) (compared e op)) c is in
    ap (λ o. elim o as (λ _. Result standard.ConditionShape Refusal)
    [ None ↦ joined_by (test.Holds e) t (from_value t.following more) | Some op ↦ from_second e op t.following more ])
    (same_operator t.text read.0 (given_back t (comparison_of t.text) read.0 read.1))
    ∙ second e read.0 t.following more c read.2

first_of : (t : Token) (more : List Token) (r : Result ExpressionShape Refusal) (c : ConditionShape)
    → ok_then (ok_then r (valued t more)) after_value_asked ≡ Ok c
    → ok_then r (λ e. after_value e more) ≡ Ok (condition_image c)
first_of t more (Ok e) c is = after_first e more c is
first_of t more (Err refusal) c is = cc is

from_first : (place : Place) (ts : List Token) (c : ConditionShape)
    → ok_then (next_as expect_value (record { following = place; left = ts })) after_value_asked ≡ Ok c
    → from_value place ts ≡ Ok (condition_image c)
from_first place [] c is = cc is
from_first place (t ∷ more) c is = first_of t more (or_unexpected t (expect_value t)) c is

-- the tokens of a condition of the library make its image
pub condition_kept : (ts : Tokens) (c : ConditionShape) → asked.condition_given ts ≡ Ok c → condition_given ts ≡ Ok (condition_image c)
condition_kept ts c is = from_first ts.following ts.left c is

-- what the library plans of a block of each kind
pub data Planned : Type 0 where
  if_plan : List ConditionShape → Planned
  for_plan : List ℕ → SeriesShape → Planned
  raw_plan : List ℕ → Planned

abbrev pub kind_of : Planned → Blocks
kind_of (if_plan cs) = If
kind_of (for_plan name s) = For
kind_of (raw_plan text) = Raw

abbrev pub node_of : Planned → BlockShape
node_of (if_plan cs) = node.If cs
node_of (for_plan name s) = node.For name s
node_of (raw_plan text) = node.Raw text

abbrev pub plan : Planned → Bool → PlanShape
plan p is_closed = record { node = node_of p; is_closed = is_closed }

abbrev pub plan_image : Planned → Bool → StdPlanShape
plan_image p is_closed = record { node = block_image (node_of p); is_closed = is_closed }

abbrev pub Begins : Blocks → Tokens → PlanShape → Type 0
Begins b ts p =
    (planned : Planned) × (kind_of planned ≡ b) × (p ≡ plan planned false) × (begun (standard_block b) ts ≡ Ok (plan_image planned false))

-- a standard plan that no `else` has closed
abbrev unclosed : StdBlockShape → Result StdPlanShape Refusal
unclosed n = Ok (record { node = n; is_closed = false })

abbrev one_condition : standard.ConditionShape → Result StdPlanShape Refusal
one_condition c = unclosed (shape.If Loose (c ∷ []))

begins_if : (ts : Tokens) (p : PlanShape) → library.begun If ts ≡ Ok p → Begins If ts p
begins_if ts p is =
    let read = made_from (asked.condition_given ts) (λ c. Ok (library.planned (node.If (c ∷ [])))) p is in (
      if_plan (read.0 ∷ []),
      refl,
      sym (same_value (library.planned (node.If (read.0 ∷ []))) p read.2),
      ap (λ r. ok_then r one_condition) (condition_kept ts read.0 read.1),
    )

-- the parts of a loop without options
abbrev from_options : List ℕ → SeriesShape → OptionsShape → Result LoopShape Refusal
from_options name s options = Ok (record { name = name; series = s; options = options })

abbrev from_series : List ℕ → SeriesShape × Tokens → Result LoopShape Refusal
from_series name s = ok_then (options_from loop.For no_options s.1.left) (from_options name s.0)

abbrev from_word : List ℕ → Unit {0} × Tokens → Result LoopShape Refusal
from_word name word = ok_then (next_as expect_series word.1) (from_series name)

abbrev from_name : List ℕ × Tokens → Result LoopShape Refusal
from_name name = ok_then (next_as (expect_str (codes "in")) name.1) (from_word name.0)

abbrev planned_loop : LoopShape → Result StdPlanShape Refusal
planned_loop l = unclosed (shape.For Refused l)

-- the same parts of a loop of the library
abbrev old_series : List ℕ → SeriesShape × Tokens → Result PlanShape Refusal
old_series name s = alone (library.planned (node.For name s.0)) s.1

abbrev old_word : List ℕ → Unit {0} × Tokens → Result PlanShape Refusal
old_word name word = ok_then (next_as expect_series word.1) (old_series name)

abbrev old_name : List ℕ × Tokens → Result PlanShape Refusal
old_name name = ok_then (next_as (expect_str (codes "in")) name.1) (old_word name.0)

options_none : (x p : PlanShape) (ts : List Token) (place : Place) → alone x (record { following = place; left = ts }) ≡ Ok p
    → (options_from loop.For no_options ts ≡ Ok no_options) × (x ≡ p)
options_none x p [] place is = (refl, same_value x p is)
options_none x p (t ∷ ts) place is = cc is

begins_for : (ts : Tokens) (p : PlanShape) → library.begun For ts ≡ Ok p → Begins For ts p
begins_for ts p is =
    let name = made_from (next_as expect_identifier ts) old_name p is in
    let word = made_from (next_as (expect_str (codes "in")) name.0.1) (old_word name.0.0) p name.2 in
    let series = made_from (next_as expect_series word.0.1) (old_series name.0.0) p word.2 in
    let none = options_none (library.planned (node.For name.0.0 series.0.0)) p series.0.1.left series.0.1.following series.2 in (
      for_plan name.0.0 series.0.0,
      refl,
      sym none.1,
      ap (λ r. ok_then (ok_then r from_name) planned_loop) name.1
          ∙ ap (λ r. ok_then (ok_then r (from_word name.0.0)) planned_loop) word.1
          ∙ ap (λ r. ok_then (ok_then r (from_series name.0.0)) planned_loop) series.1
          ∙ ap (λ r. ok_then (ok_then r (from_options name.0.0 series.0.0)) planned_loop) none.0,
    )

begins_raw : (ts : Tokens) (p : PlanShape) → library.begun Raw ts ≡ Ok p → Begins Raw ts p
begins_raw ts p is =
    let left = made_from (none_left ts.left) (λ u. Ok (library.planned (node.Raw []))) p is in (
      raw_plan [],
      refl,
      sym (same_value (library.planned (node.Raw [])) p left.2),
      ap (λ r. ok_then r (λ u. unclosed (shape.Raw []))) left.1,
    )

-- a block of the library begins as its image
pub begins : (b : Blocks) (ts : Tokens) (p : PlanShape) → library.begun b ts ≡ Ok p → Begins b ts p
begins If ts p is = begins_if ts p is
begins For ts p is = begins_for ts p is
begins Raw ts p is = begins_raw ts p is

abbrev pub Divides : Planned → Bool → List ℕ → Tokens → PlanShape → Type 0
Divides planned is_closed name ts p =
    (next : Planned) × (closed : Bool) × (kind_of next ≡ kind_of planned) × (p ≡ plan next closed)
    × (divided (plan_image planned is_closed) name ts ≡ Ok (plan_image next closed))

-- what an image makes of a divider, by whether that is `else`
abbrev by_name : StdBlockShape → Tokens → Bool → Result StdPlanShape Refusal
by_name n ts is_else = cond is_else (alone (record { node = n; is_closed = true }) ts) (ok_then (node_divided n ts) unclosed)

-- an `else` closes a plan
closes : (planned : Planned) (name : List ℕ) (ts : Tokens) (p : PlanShape) → bytes_eq name (codes "else") ≡ true
    → alone (plan planned true) ts ≡ Ok p → Divides planned false name ts p
closes planned name ts p same is =
    let left = made_from (none_left ts.left) (λ u. Ok (plan planned true)) p is in (
      planned,
      true,
      refl,
      sym (same_value (plan planned true) p left.2),
      ap (by_name (block_image (node_of planned)) ts) same ∙ ap (λ r. ok_then r (λ u. Ok (plan_image planned true))) left.1,
    )

abbrev one_more : List standard.ConditionShape → standard.ConditionShape → Result (List standard.ConditionShape) Refusal
one_more cs c = Ok (cs ++ c ∷ [])

abbrev divided_if : List standard.ConditionShape → Result StdBlockShape Refusal
divided_if cs = Ok (shape.If Loose cs)

abbrev old_condition : List ConditionShape → ConditionShape → Result PlanShape Refusal
old_condition cs c = Ok (plan (if_plan (cs ++ c ∷ [])) false)

if_divides : (cs : List ConditionShape) (is_else : Bool) (name : List ℕ) (ts : Tokens) (p : PlanShape)
    → bytes_eq name (codes "else") ≡ is_else
    → cond is_else (alone (plan (if_plan cs) true) ts) (ok_then (asked.condition_given ts) (old_condition cs)) ≡ Ok p
    → Divides (if_plan cs) false name ts p
if_divides cs true name ts p same is = closes (if_plan cs) name ts p same is
if_divides cs false name ts p same is =
    let read = made_from (asked.condition_given ts) (old_condition cs) p is in (
      if_plan (cs ++ read.0 ∷ []),
      false,
      refl,
      sym (same_value (plan (if_plan (cs ++ read.0 ∷ [])) false) p read.2),
      ap (by_name (shape.If Loose (map condition_image cs)) ts) same
          ∙ ap (λ r. ok_then (ok_then (ok_then r (one_more (map condition_image cs))) divided_if) unclosed)
          (condition_kept ts read.0 read.1)
          ∙ ap (λ ds. unclosed (shape.If Loose ds)) (sym (map-append condition_image cs (read.0 ∷ []))),
    )

abbrev old_other : List ℕ → SeriesShape → ConditionShape → Result PlanShape Refusal
old_other name_of s c = Ok (plan (for_plan name_of s) false)

for_divides : (name_of : List ℕ) (s : SeriesShape) (is_else : Bool) (name : List ℕ) (ts : Tokens) (p : PlanShape)
    → bytes_eq name (codes "else") ≡ is_else → list_any (bytes_eq name) (codes "else" ∷ []) ≡ true
    → cond is_else (alone (plan (for_plan name_of s) true) ts) (ok_then (asked.condition_given ts) (old_other name_of s)) ≡ Ok p
    → Divides (for_plan name_of s) false name ts p
for_divides name_of s true name ts p same is_divider is = closes (for_plan name_of s) name ts p same is
for_divides name_of s false name ts p same is_divider is =
    let differs : false ≡ true = sym (ap (λ b. b || false) same) ∙ is_divider in
    cc differs

-- a divider of a block of the library divides its image
pub divides : (planned : Planned) (is_closed : Bool) (name : List ℕ) (ts : Tokens) (p : PlanShape)
    → list_any (bytes_eq name) (library.dividers_of (kind_of planned)) ≡ true
    → library.divided (plan planned is_closed) name ts ≡ Ok p → Divides planned is_closed name ts p
divides planned true name ts p is_divider is = cc is
divides (if_plan cs) false name ts p is_divider is = if_divides cs (bytes_eq name (codes "else")) name ts p refl is
divides (for_plan name_of s) false name ts p is_divider is =
    for_divides name_of s (bytes_eq name (codes "else")) name ts p refl is_divider is
divides (raw_plan text) false name ts p is_divider is = cc is_divider
