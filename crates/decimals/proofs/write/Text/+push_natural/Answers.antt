use Rattle.std.proofs.Common.{ℕ, ◌/◌, ◌%◌, ◌<◌, [], ◌∷◌, subst}
use Rattle.rules.specs.Text.{digit, natural}
use Rattle.decimals.proofs.Texts.{Partly, partly_byte, partly_fits, partly_more, partly_end}
use Rattle.decimals.proofs.NumberTexts.{digits_first, digit_alone, fewer}
use Rattle.decimals.proofs.write.Text.+push_natural.Goals as goal
use Rattle.decimals.proofs.write.Text.+push_natural.Goals.{then-n-ge10, else-n-ge10}

pub push_natural-requires : goal.push_natural-requires
push_natural-requires t c =
    (subst (λ (j : ℕ). c.args.n / 10 < j) c.decreases (fewer _ c.if-n-ge10.true), partly_fits _ _ (digits_first c.args.n c.if-n-ge10.true c.requires))

pub push-requires : goal.push-requires
push-requires t c =
    partly_byte (elim c.if-n-ge10.branch as (λ _. Partly c.args.self.now c.if-n-ge10.self (natural c.args.n) (digit (c.args.n % 10) ∷ [])) [
      | then-n-ge10 w ↦ rw w.self-is (partly_more _ _ (digits_first c.args.n w.if-n-ge10.true c.requires) w.push_natural.ensures)
      | else-n-ge10 w ↦ rw w.self-is (digit_alone c.args.n w.if-n-ge10.false c.requires)
    ])

pub returns : goal.returns
returns t c =
    partly_end (elim c.if-n-ge10.branch as (λ _. Partly c.args.self.now c.if-n-ge10.self (natural c.args.n) (digit (c.args.n % 10) ∷ [])) [
      | then-n-ge10 w ↦ rw w.self-is (partly_more _ _ (digits_first c.args.n w.if-n-ge10.true c.requires) w.push_natural.ensures)
      | else-n-ge10 w ↦ rw w.self-is (digit_alone c.args.n w.if-n-ge10.false c.requires)
    ]) c.push.ensures
