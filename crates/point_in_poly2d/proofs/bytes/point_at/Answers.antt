use Prim.Native.Nat.{◌+◌, ◌*◌}
use native.Mathlib.Omega.{arith}
use Rattle.rules.proofs.Coordinates.{point_is}
use Rattle.words.specs.Bytes.{floats_of}
use Rattle.words.proofs.Words.{floats-length}
use Rattle.point_in_poly2d.proofs.Words.{read_float, read_on}
use Rattle.point_in_poly2d.proofs.bytes.point_at.Goals as goal

pub coordinate-requires : goal.coordinate-requires
coordinate-requires c = read_on c.args.bytes.now _ (omega (arith, c.requires.within)) c.word.ensures c.requires.on_grid

pub coordinate-requires-2 : goal.coordinate-requires-2
coordinate-requires-2 c = read_on c.args.bytes.now _ (omega (arith, c.requires.within)) c.word-2.ensures c.requires.on_grid

pub invariant_of-result : goal.invariant_of-result
invariant_of-result c = record {
  x_on_grid = rw c.coordinate.ensures (read_on c.args.bytes.now _ (omega (arith, c.requires.within)) c.word.ensures c.requires.on_grid);
  y_on_grid = rw c.coordinate-2.ensures (read_on c.args.bytes.now _ (omega (arith, c.requires.within)) c.word-2.ensures c.requires.on_grid);
}

pub returns : goal.returns
returns c =
    let bytes = c.args.bytes.now in
    rw (
      read_float bytes (c.args.i * 2) (omega (arith, c.requires.within)) c.word.ensures c.coordinate.ensures,
      read_float bytes (c.args.i * 2 + 1) (omega (arith, c.requires.within)) c.word-2.ensures c.coordinate-2.ensures,
    )
    (point_is (floats_of bytes) c.args.i (omega (arith, floats-length bytes, c.requires.within)))
