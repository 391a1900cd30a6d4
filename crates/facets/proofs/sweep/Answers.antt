use Prim.Native.Nat.{ℕ, ◌+◌, ◌-◌}
use mathlib.Core.Path.{◌≡◌, refl, ◌∙◌, ap}
use mathlib.Core.List.{List}
use lib.ListN.{length, take, drop}
use Rattle.facets.specs.Laid.{corner_of, leading}
use Rattle.facets.proofs.Facets.{led_from}
use Rattle.facets.proofs.Sweeping.{sweeping_last, corner_marked, next_high, ready}
use Rattle.facets.proofs.sweep.Goals as goal

-- where the list ends
behind : (ring : List ℕ) (p : ℕ) {led : ℕ} → led ≡ leading (take (length ring - (p + 1)) (drop (p + 1) ring)) → p + 1 + led ≡ p + 1 + leading (drop (p + 1) ring)
behind ring p e = ap (λ (n : ℕ). p + 1 + n) (led_from ring (p + 1) e)

pub corner-u-requires : goal.corner-u-requires
corner-u-requires c =
    let (facets, h) = c.requires.held in
    corner_marked _ _ _ _ _ (c.loop-p.invariant facets h) c.loop-p-test.true

pub corner-v-requires : goal.corner-v-requires
corner-v-requires c =
    let (facets, h) = c.requires.held in
    rw c.next_mark.ensures (next_high _ _ _ _ _ (c.loop-p.invariant facets h) c.loop-p-test.true _ (behind c.args.ring.now c.loop-p.p c.leading.ensures.value))

pub split-requires : goal.split-requires
split-requires c =
    let (facets, h) = c.requires.held in
    let r = ready _ _ _ _ _ (c.loop-p.invariant facets h) c.loop-p-test.true _ (behind c.args.ring.now c.loop-p.p c.leading.ensures.value) _ _ _
    c.corner-u.ensures (c.corner-v.ensures ∙ ap corner_of c.next_mark.ensures) refl
    in
    record { within = r.in_list; ends = (r.u_in, r.v_in); room = r.fits }

pub loop-p-preserved : goal.loop-p-preserved
loop-p-preserved c = λ facets h.
    let r = ready _ _ _ _ _ (c.loop-p.invariant facets h) c.loop-p-test.true _ (behind c.args.ring.now c.loop-p.p c.leading.ensures.value) _ _ _
    c.corner-u.ensures (c.corner-v.ensures ∙ ap corner_of c.next_mark.ensures) refl
    in
    r.next _ c.split.ensures

pub returns : goal.returns
returns c = λ facets h. sweeping_last _ _ _ _ _ (c.loop-p.invariant facets h) c.loop-p-test.false
