-- `Radicand::try_guess` meets its contract.
use Rattle.root.proofs.Remainder.{up, stay}
use Rattle.root.proofs.radicand.Radicand.try_guess.Goals as goal
use Rattle.root.proofs.radicand.Radicand.try_guess.Goals.{then-below-g, else-below-g}

-- the one of the two that was taken
pub returns-then-below-g-2 : goal.returns-then-below-g-2
returns-then-below-g-2 c =
    elim c.if-below-g.branch [
      | then-below-g w ↦ rw w.root-is (up _ _ c.args.self.high c.guess-g.ensures c.if-below-g-2.true w.if-below-g.true)
      | else-below-g w ↦ rw w.root-is (stay _ _ c.args.self.high c.guess-g.ensures c.if-below-g-2.true w.if-below-g.false)
    ]
