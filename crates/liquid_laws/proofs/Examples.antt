-- Worked examples of the laws.
use Rattle.std.proofs.Common.{◌≡◌, ℕ, pos, negsuc, List, [], ◌∷◌, ◌++◌, codes, true, false, Option, Some, None, refl, inr, subst, arith}
use Rattle.std.proofs.lemmas.Fmt.{decimal_digit}
use Rattle.liquid_scalar.specs.meaning.Scalar.{integer}
use Rattle.liquid_value.specs.meaning.Tree.{Tree, nil, scalar}
use Rattle.liquid_runtime.specs.meaning.View.{View}
use Rattle.liquid_plugins.specs.meaning.Chain.{FilterMeaning}
use Rattle.liquid_plugins.specs.meaning.Expression.{ExpressionShape, literal}
use Rattle.liquid_plugins.specs.meaning.Nodes.{text_node, node, no_nodes, Parts, part, no_parts}
use Rattle.liquid_template.specs.meaning.Actions.{under}
use Rattle.liquid_template.specs.meaning.Nodes.{run_node, run_nodes, run_parts}
use Rattle.liquid_template.specs.meaning.Partials.{Found}
use Rattle.liquid_template.specs.meaning.Run.{Action, Run}
use Rattle.liquid_template.specs.meaning.Runs.{block_run, part_run}
use Rattle.liquid_tags.specs.declared.for_block.series.SeriesShape.{SeriesShape}
use Rattle.liquid_tags.specs.declared.for_block.series.SeriesShape.TheVariants.{Of, Between}
use Rattle.liquid_tags.specs.laws.LoopRuns.{cleared}
use Rattle.liquid_std.specs.declared.iteration.loops.LoopShape.{LoopShape}
use Rattle.liquid_std.specs.declared.iteration.scalars.OverScalar.TheVariants.{Refused}
use Rattle.liquid_std.specs.meaning.iteration.Picked.{in_order}
use Rattle.liquid_std.specs.meaning.marks.Held.{MarksIn}
use Rattle.liquid_std.specs.declared.blocks.StdBlockShape.{StdBlockShape}
use Rattle.liquid_std.specs.declared.blocks.StdBlockShape.TheVariants.{For, Tablerow}
use Rattle.liquid_std.specs.declared.tags.StdTagShape.{StdTagShape}
use Rattle.liquid_std.specs.meaning.Standard.{standard}
use Rattle.liquid_laws.specs.laws.loops.Bodies.{Bodies, no_more, goes_on}
use Rattle.liquid_laws.specs.meaning.loops.Chosen.{chosen}
use Rattle.liquid_laws.specs.meaning.loops.Ends.{Ends}
use Rattle.liquid_laws.specs.meaning.loops.Rows.{AreRows, rows_text}
use Rattle.liquid_laws.proofs.ForWriteLemmas.{for_runs, for_writes}
use Rattle.liquid_laws.proofs.TableWriteLemmas.{table_writes}

abbrev five : List ℕ
five = 1 ∷ 2 ∷ 3 ∷ 4 ∷ 5 ∷ []

-- `reversed offset: 1 limit: 3` leaves the second, third and fourth of five items, in reverse order
five_reversed : in_order true (chosen (pos 1) (Some (pos 3)) five) ≡ 4 ∷ 3 ∷ 2 ∷ []
five_reversed = refl

-- `offset: -2 limit: 3` leaves the first item
before_the_first : chosen (negsuc 1) (Some (pos 3)) five ≡ 1 ∷ []
before_the_first = refl

-- the rows of three cells in two columns
abbrev three : List ℕ → List (List (List ℕ))
three x = (x ∷ x ∷ []) ∷ (x ∷ []) ∷ []

are_rows : AreRows 2 (three (codes "x"))
are_rows = (omega arith, refl, omega arith, inr (omega arith))

abbrev three_text : List ℕ
three_text =
    codes "<tr class=\"row1\">\n<td class=\"col1\">x</td><td class=\"col2\">x</td></tr>\n"
    ++ codes "<tr class=\"row2\"><td class=\"col1\">x</td></tr>\n"

three_in_two : rows_text 1 (three (codes "x")) ≡ three_text
three_in_two = rw (decimal_digit 1 (omega arith), decimal_digit 2 (omega arith)) refl

-- a number, and a loop `i in (1..3)`
abbrev number : ℕ → Tree
number n = scalar (integer (pos n))

abbrev loop_over : SeriesShape → Option ExpressionShape → LoopShape
loop_over series cols =
    record { name = codes "i"; series = series; options = record { offset = None; limit = None; is_reversed = false; cols = cols } }

abbrev one_to_three : SeriesShape
one_to_three = Between (literal (number 1)) (literal (number 3))

module _ {Reg F : Type 0} (held : MarksIn Reg) (fresh : Reg) (m : FilterMeaning F) (finds : Option (Found F (StdTagShape F) StdBlockShape))
    (depth : ℕ) (u : View Reg) where
  -- the text `x`, and after `else` the text `y`
  abbrev texts_xy : Parts F (StdTagShape F) StdBlockShape
  texts_xy = part (node (text_node (codes "x")) no_nodes) (part (node (text_node (codes "y")) no_nodes) no_parts)

  abbrev part_at_place : ℕ → Action Reg
  part_at_place = part_run (standard held fresh m finds) depth texts_xy

  abbrev v : View Reg
  v = cleared u

  part_ends : Ends (part_at_place 1 v) (codes "y") v
  unfolding run_node run_nodes run_parts
  part_ends = (refl, refl, refl)

  abbrev run_of : LoopShape → Run Reg
  run_of l = block_run (standard held fresh m finds) depth (For Refused l) texts_xy v

  abbrev table_of : LoopShape → Run Reg
  table_of l = block_run (standard held fresh m finds) depth (Tablerow l) texts_xy v

  -- the bodies of three items, each of which writes `x`
  three_bodies : (run : ℕ → Tree → Action Reg) → ((place : ℕ) (t : Tree) → Ends (run place t v) (codes "x") v) → (a b c : Tree)
      → Bodies run 0 (a ∷ b ∷ c ∷ []) v (codes "x" ∷ codes "x" ∷ codes "x" ∷ []) v
  three_bodies run ends a b c =
      goes_on 0 a (b ∷ c ∷ []) v v v (codes "x") (codes "x" ∷ codes "x" ∷ []) (ends 0 a) refl
      (goes_on 1 b (c ∷ []) v v v (codes "x") (codes "x" ∷ []) (ends 1 b) refl
      (goes_on 2 c [] v v v (codes "x") [] (ends 2 c) refl (no_more 3 v)))

  -- `{% for i in (1..3) %}x{% else %}y{% endfor %}` writes `xxx`
  three_written : Ends (run_of (loop_over one_to_three None)) (codes "xxx") v
  unfolding run_node run_nodes run_parts under
  three_written =
      for_writes held fresh m finds depth Refused (loop_over one_to_three None) texts_xy (number 1) (number 2 ∷ number 3 ∷ []) v v
      (codes "x" ∷ codes "x" ∷ codes "x" ∷ []) refl (three_bodies _ (λ place t. (refl, refl, refl)) (number 1) (number 2) (number 3))

  -- `{% for i in nil %}x{% else %}y{% endfor %}` writes `y`
  none_written : Ends (run_of (loop_over (Of (literal nil)) None)) (codes "y") v
  unfolding run_node run_nodes run_parts
  none_written =
      rw (for_runs held fresh m finds depth Refused (loop_over (Of (literal nil)) None) texts_xy v) (refl, refl, refl)

  -- `{% tablerow i in (1..3) cols: 2 %}x{% endtablerow %}` writes two rows
  table_written : Ends (table_of (loop_over one_to_three (Some (literal (number 2))))) three_text v
  unfolding run_node run_nodes run_parts under
  table_written =
      subst (λ text. Ends (table_of (loop_over one_to_three (Some (literal (number 2))))) text v) three_in_two
      (table_writes held fresh m finds depth (loop_over one_to_three (Some (literal (number 2)))) texts_xy v v
      (number 1 ∷ number 2 ∷ number 3 ∷ []) 2 (three (codes "x")) (refl, refl, (Some (pos 2), refl, refl)) are_rows
      (three_bodies _ (λ place t. (refl, refl, refl)) (number 1) (number 2) (number 3)))
