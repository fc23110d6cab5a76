use Rattle.std.proofs.Common.{◌≡◌, ◌≤◌, ℕ, List, length, map, take, drop}
use Rattle.liquid_pages.specs.declared.options.PageOptions.{PageOptions}
use Rattle.liquid_pages.specs.meaning.Shown.{Page}
use Rattle.liquid_c.specs.meaning.Turns.{InTurn}
use Rattle.liquid_c.specs.steps.Prepared.{LeavesOf}
use Rattle.liquid_c.proofs.each.render_turns.Given as goal

abbrev pub invariant-loop-place : goal.invariant-loop-place
invariant-loop-place g l = record {
  again : (options : PageOptions) (globals : List ℕ) (page : Page) → g.R.RenderOver.comes l.initial.page options globals page
      → g.R.RenderOver.comes l.page options globals page;
  turns : InTurn (LeavesOf (g.R.RenderOver.comes l.initial.page l.fn.options)) l.initial.out (map (λ g. g.now) (take l.place l.fn.globals))
      (take l.place l.outcomes) l.out l.used l.whole;
  fits : l.used ≤ length l.out;
  counted : l.whole ≤ l.place;
  later : drop l.place l.outcomes ≡ drop l.place l.initial.outcomes;
  size : length l.outcomes ≡ length l.initial.outcomes;
}
