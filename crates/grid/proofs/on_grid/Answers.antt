-- `on_grid` meets its contract: its tests are those of `grid_test`.
use mathlib.Core.Path.{◌≡◌, ◌∙◌}
use mathlib.Core.Bool.{false, cond}
use lib.Ieee.{of_bits, neg, binary32, lt, eq, add, sub}
use Rattle.rules.specs.Grid.{on_grid}
use Rattle.grid.proofs.GridTest.{lo, hi, grid_test, big_f}
use Rattle.grid.proofs.on_grid.Goals as goal

pub returns-then-x-2 : goal.returns-then-x-2
unfolding neg of_bits
returns-then-x-2 c =
    let test : cond (lt lo c.args.x) (cond (lt c.args.x hi) (eq (sub binary32 (add binary32 c.args.x big_f) big_f) c.args.x) false) false ≡ on_grid c.args.x = grid_test c.args.x in
    rw (c.if-x.true, c.if-x-2.true) at test

pub returns-else-x-2 : goal.returns-else-x-2
unfolding neg of_bits
returns-else-x-2 c =
    let test : cond (lt lo c.args.x) (cond (lt c.args.x hi) (eq (sub binary32 (add binary32 c.args.x big_f) big_f) c.args.x) false) false ≡ on_grid c.args.x = grid_test c.args.x in
    c.if-x-2.false ∙ (rw (c.if-x.true, c.if-x-2.false) at test)

pub returns-else-x : goal.returns-else-x
unfolding neg of_bits
returns-else-x c =
    let test : cond (lt lo c.args.x) (cond (lt c.args.x hi) (eq (sub binary32 (add binary32 c.args.x big_f) big_f) c.args.x) false) false ≡ on_grid c.args.x = grid_test c.args.x in
    c.if-x.false ∙ (rw c.if-x.false at test)
