-- The text of a reply, by which reply it is, and how long it is.
use Rattle.std.proofs.Common.{ℕ, ◌+◌, ◌≤◌, ◌<◌, ◌≡◌, List, [], ◌∷◌, length, refl, arith}
use Prim.Native.Char.{code}
use Rattle.std.specs.Prelude.{Ok, Err}
use Rattle.rules.specs.Text.{bytes, natural}
use Rattle.rules.specs.Playback.{number, reply_text}
use Rattle.rules.proofs.TextNumbers.{natural_one}
use Rattle.rules.proofs.TextLengths.{natural-length}
use Rattle.decimals.specs.declared.write.Text.{Text}
use Rattle.decimals.specs.Writes.{Grew}
use Rattle.decimals.proofs.Texts.{wrote-length}
use Rattle.entries.specs.declared.Refusal.{Refusal}
use Rattle.entries.specs.Refusals.{number_of}
use Rattle.point_in_poly2d.specs.declared.Position.TheVariants.{Outside, Inside, Border}
use Rattle.shift_log.specs.declared.Reply.TheVariants.{Set, At}
use Rattle.shift_log.specs.Promise.{reply_of}

pub natural-text : (n : ℕ) → reply_text (number n) ≡ natural n
unfolding reply_text
natural-text n = refl

pub number-text : (r : Refusal) → reply_text (reply_of (Err r)) ≡ natural (number_of r)
number-text r = natural-text (number_of r)

pub set_text : reply_text (reply_of (Ok Set)) ≡ code "0" ∷ []
unfolding reply_text
set_text = natural_one 0 (omega arith)

pub outside-text : reply_text (reply_of (Ok (At Outside))) ≡ bytes "outside"
unfolding reply_text
outside-text = refl

pub inside-text : reply_text (reply_of (Ok (At Inside))) ≡ bytes "inside"
unfolding reply_text
inside-text = refl

pub border-text : reply_text (reply_of (Ok (At Border))) ≡ bytes "border"
unfolding reply_text
border-text = refl

pub number_short : (n : ℕ) → n < 4294967296 → length (natural n) ≤ 10
number_short n h = natural-length 9 n (omega arith)

-- behind it there is room for the newline
pub newline_fits : {old new : Text} {reply : List ℕ} → Grew old new reply → length reply ≤ 10 → old.end + 11 ≤ length old.out.now → new.end < length new.out.now
newline_fits g h room = omega (arith, h, room, g.wrote.ends, wrote-length g.wrote)
