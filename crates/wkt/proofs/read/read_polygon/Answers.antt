-- `read_polygon` meets its promise.
use Rattle.std.proofs.Common.{ℕ, List, ◌++◌, sym, ap₂}
use lib.ListN.{drop}
use lib.Ieee.{Float}
use Rattle.rules.proofs.LineAnswers.{reads-not}
use Rattle.wkt.proofs.Forms.{no-polygon}
use Rattle.wkt.proofs.ReadEntry.{too_many, held-length, too_little_lem, answered}
use Rattle.wkt.proofs.read.read_polygon.Goals as goal

pub returns-in_default : goal.returns-in_default
returns-in_default c = reads-not _ _ (no-polygon _ c.in_default.ensures.no_outline)

pub returns-then-count-gt-MOST_POINTS : goal.returns-then-count-gt-MOST_POINTS
returns-then-count-gt-MOST_POINTS c = too_many c.in-Some.ensures.outline _ c.if-count-gt-MOST_POINTS.true

pub returns-then-coords-count : goal.returns-then-coords-count
returns-then-coords-count c = too_little_lem c.in-Some.ensures.outline c.if-count-gt-MOST_POINTS.false _ c.if-coords-count.true

pub returns : goal.returns
returns c =
    answered c.in-Some.ensures.outline c.if-count-gt-MOST_POINTS.false _ _ c.if-coords-count.false
    (ap₂ (λ (l : List Float) (k : ℕ). l ++ drop k c.args.coords.now) c.copy_from_slice.ensures.after (sym (held-length c.in-Some.ensures.outline.known c.if-count-gt-MOST_POINTS.false)))
