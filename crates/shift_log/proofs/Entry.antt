-- Two results that the promise of a step allows are equal.
use mathlib.Core.Path.{◌≡◌, refl, sym, ap, subst, ◌∙◌}
use mathlib.Core.Bool.{cond}
use mathlib.Core.List.{List}
use mathlib.Core.Option.{Option, none, some}
use Prim.Native.Nat.{ℕ}
use lib.ListN.{length}
use Rattle.std.specs.Prelude.{Result, Ok, Err}
use Rattle.rules.specs.Border.{outside, inside, border}
use Rattle.rules.specs.Playback.{Event, InForce as RulesInForce, Reply as RulesReply, number, place, reply, sets}
use Rattle.rules.proofs.LineMeanings.{means_one}
use Rattle.entries.specs.declared.Refusal.{Refusal}
use Rattle.entries.proofs.Refusals.{number_one, number_above}
use Rattle.point_in_poly2d.specs.declared.Position.{Position}
use Rattle.point_in_poly2d.specs.declared.Position.TheVariants.{Outside, Inside, Border}
use Rattle.point_in_poly2d.specs.Positions.{position_of}
use Rattle.shift_log.specs.declared.InForce.{InForce}
use Rattle.shift_log.specs.declared.Reply.{Reply}
use Rattle.shift_log.specs.declared.Reply.TheVariants.{Set, At}
use Rattle.shift_log.specs.Promise.{in_force_of, reply_of, too_little, Stands, StepPromise}

-- a reply is told by what it says
told_number : RulesReply → ℕ
told_number (number n) = n
told_number (place p) = 0

place_of : RulesReply → Position
place_of (number n) = Outside
place_of (place outside) = Outside
place_of (place inside) = Inside
place_of (place border) = Border

back_again : (p : Position) → place_of (place (position_of p)) ≡ p
unfolding place_of
back_again Outside = refl
back_again Inside = refl
back_again Border = refl

reply_one : (r s : Result Reply Refusal) → reply_of r ≡ reply_of s → r ≡ s
unfolding told_number
reply_one (Ok Set) (Ok Set) e = refl
reply_one (Ok Set) (Ok (At p)) e = cc
reply_one (Ok Set) (Err s) e = absurd (number_above s (sym (ap told_number e)))
reply_one (Ok (At p)) (Ok Set) e = cc
reply_one (Ok (At p)) (Ok (At q)) e = ap (λ (x : Position). Ok (At x)) (sym (back_again p) ∙ ap place_of e ∙ back_again q)
reply_one (Ok (At p)) (Err s) e = cc
reply_one (Err r) (Ok Set) e = absurd (number_above r (ap told_number e))
reply_one (Err r) (Ok (At q)) e = cc
reply_one (Err r) (Err s) e = ap (λ (x : Refusal). Err x) (number_one r s (ap told_number e))

-- what is lent and what is in force then
pub record SameInForce (f g : InForce) : Type 0 where
  pub coords : f.coords.now ≡ g.coords.now
  pub force : f.force ≡ g.force

stands_one : (o : Option RulesInForce) (f : InForce) {g h : InForce} → Stands o f g → Stands o f h → SameInForce g h
stands_one none f (a, b) (d, e) = record { coords = a ∙ sym d; force = b ∙ sym e }
stands_one (some s) f (a, b) (d, e) = record { coords = a ∙ sym d; force = b ∙ sym e }

pub unique : (line : List ℕ) (f : InForce) (r s : Result Reply Refusal) (g h : InForce) → StepPromise line f r g → StepPromise line f s h → (r ≡ s) × SameInForce g h
unique line f r s g h p q =
    let e : p.event ≡ q.event = means_one p.meant q.meant in
    let given : Option Event → RulesReply = λ v. cond (too_little (length f.coords.now) (sets v)) (number 6) (reply (in_force_of f) v) in
    let set : Option Event → Option RulesInForce = λ v. cond (too_little (length f.coords.now) (sets v)) none (sets v) in
    let other : Stands (set p.event) f h = subst (λ (v : Option Event). Stands (set v) f h) (sym e) q.stepped.stands in
    (reply_one r s (p.stepped.replied ∙ ap given e ∙ sym q.stepped.replied), stands_one (set p.event) f p.stepped.stands other)
