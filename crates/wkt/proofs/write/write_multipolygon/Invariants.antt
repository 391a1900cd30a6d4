-- `write_multipolygon` meets its contract. The invariant: since the loop began, the areas in front of number i of those behind the first were written.
use Rattle.std.proofs.Common.{drop}
use Rattle.grid.specs.Listed.{listed}
use Rattle.decimals.proofs.Texts.{Partly}
use Rattle.wkt.proofs.Areas.{further, Ahead}
use Rattle.wkt.proofs.write.write_multipolygon.Given as goal

abbrev pub invariant-loop-n : goal.invariant-loop-n
invariant-loop-n l = record {
  left : Partly l.initial.text l.text (further (listed l.points) l.others l.initial.rest) (further (listed l.points) (drop l.n-index l.others) l.rest);
  ahead : Ahead (listed l.points) (drop l.n-index l.others) l.rest;
}
