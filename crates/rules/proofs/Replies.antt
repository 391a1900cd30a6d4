-- The replies to a log: carrying what is in force from line to line gives the replies by looking back, and each point is answered as if it were
-- asked alone.
use Prim.Native.Nat.{ℕ, zero, suc, ◌≤◌}
use Prim.Native.Char.{code}
use native.Mathlib.Omega.{arith}
use mathlib.Core.Path.{◌≡◌, refl, sym, ap, ap₂, subst, ◌∙◌}
use mathlib.Core.Bool.{Bool, true, false}
use mathlib.Core.List.{List, [], ◌∷◌, ◌++◌, append_assoc, append-nil}
use mathlib.Core.Option.{Option, none, some}
use lib.Dec.{ltb}
use lib.ListN.{length, get_or}
use lib.Seq.{get_or-append_seam}
use borrow.Author.Tests.{ltb-true, ltb-false, eqb-true}
use Rattle.algebra.specs.Lists.{or_else, Each, end, ◌&◌}
use Rattle.rules.specs.Limits.{most_points}
use Rattle.rules.specs.Plane.{Pt}
use Rattle.rules.specs.Refusals.{◌gives◌, first_refusal}
use Rattle.rules.specs.Entries.{unless, point_in_poly2d}
use Rattle.rules.specs.Lines.{coordinate, coordinates, off_corners}
use Rattle.rules.specs.Playback.{Event, polygon, triangle, point, Says, Means, in_form, not_in_form, AllMean, no_lines, line_and}
use Rattle.rules.specs.Playback.{InForce, nothing_yet, outline_refusal, Reply, number, told, reply, putting, sets, last_set, changed, in_force, replies_behind, replies, stepping, stepped, reply_text, written}

-- ---- what a line sets

-- a refused outline puts nothing in force
pub not_put : (corners : List Pt) (convex : Bool) (n : ℕ) → outline_refusal corners ≡ suc n → putting convex corners ≡ none
unfolding putting
not_put corners convex n h = ap (λ (k : ℕ). unless {R = Option InForce} k (λ m. none) (some (record { coords = coordinates corners; convex = convex }))) h

-- so a refused line sets nothing
pub refused_sets : (corners : List Pt) (n : ℕ) → outline_refusal corners ≡ suc n → (sets (some (polygon corners)) ≡ none) × (sets (some (triangle corners)) ≡ none)
unfolding sets
refused_sets corners n h = (not_put corners false n h, not_put corners true n h)

-- and neither does a point, or a line that is not in form
pub point-sets : (p : Pt) → sets (some (point p)) ≡ none
unfolding sets
point-sets p = refl

pub none_sets : sets none ≡ none
unfolding sets
none_sets = refl

-- before any outline a point is asked of no corners, by the outline test
pub before-any : (p : Pt) → reply nothing_yet (some (point p)) ≡ told (point_in_poly2d (coordinate p.x) (coordinate p.y) [])
unfolding reply
before-any p = refl

-- ---- looking back

or_none : {A : Type 0} (o : Option A) → or_else o none ≡ o
or_none none = refl
or_none (some a) = refl

or_assoc : {A : Type 0} (o p q : Option A) → or_else (or_else o p) q ≡ or_else o (or_else p q)
or_assoc none p q = refl
or_assoc (some a) p q = refl

last-append : (l m : List (Option Event)) → last_set (l ++ m) ≡ or_else (last_set m) (last_set l)
unfolding last_set
last-append [] m = sym (or_none (last_set m))
last-append (e ∷ l) m = ap (λ (o : Option InForce). or_else o (sets e)) (last-append l m) ∙ or_assoc (last_set m) (last_set l) (sets e)

changed_or : (s : InForce) (o p : Option InForce) → changed s (or_else o p) ≡ changed (changed s p) o
changed_or s none p = refl
changed_or s (some t) p = refl

pub in_force_snoc : (before : List (Option Event)) (e : Option Event) → in_force (before ++ (e ∷ [])) ≡ changed (in_force before) (sets e)
unfolding in_force
in_force_snoc before e = ap (changed nothing_yet) (last-append before (e ∷ [])) ∙ changed_or nothing_yet (sets e) (last_set before)

-- lines that set nothing
abbrev pub NoneSet : List (Option Event) → Type 0
NoneSet events = Each (λ e. sets e ≡ none) events

none_last : (events : List (Option Event)) → NoneSet events → last_set events ≡ none
unfolding last_set
none_last [] end = refl
none_last (e ∷ events) (p & ps) = ap₂ (λ (a b : Option InForce). or_else a b) (none_last events ps) p

-- nothing was set: nothing is in force
pub none_in_force : (events : List (Option Event)) → NoneSet events → in_force events ≡ nothing_yet
unfolding in_force
none_in_force events h = ap (changed nothing_yet) (none_last events h)

-- what the last line that sets something sets is in force
pub last-in_force : (front : List (Option Event)) (e : Option Event) (back : List (Option Event)) (s : InForce) → sets e ≡ some s → NoneSet back
    → in_force (front ++ (e ∷ back)) ≡ s
unfolding in_force
last-in_force front e back s p h =
    ap (changed nothing_yet)
    (last-append front (e ∷ back)
    ∙ ap₂ (λ (o q : Option InForce). or_else (or_else o q) (last_set front)) (none_last back h) p)

-- ---- carrying what is in force gives the same

pub stepping-behind : (before events : List (Option Event)) → stepping (in_force before) events ≡ replies_behind before events
unfolding stepping replies_behind
stepping-behind before [] = refl
stepping-behind before (e ∷ rest) =
    ap (λ (l : List Reply). reply (in_force before) e ∷ l)
    (ap (λ (s : InForce). stepping s rest) (sym (in_force_snoc before e)) ∙ stepping-behind (before ++ (e ∷ [])) rest)

pub stepping-replies : (events : List (Option Event)) → stepping nothing_yet events ≡ replies events
unfolding replies
stepping-replies events = ap (λ (s : InForce). stepping s events) (sym (none_in_force [] end)) ∙ stepping-behind [] events

pub stepping-append : (s : InForce) (l m : List (Option Event)) → stepping s (l ++ m) ≡ stepping s l ++ stepping (stepped s l) m
unfolding stepping stepped
stepping-append s [] m = refl
stepping-append s (e ∷ l) m = ap (λ (k : List Reply). reply s e ∷ k) (stepping-append (changed s (sets e)) l m)

pub stepped-append : (s : InForce) (l m : List (Option Event)) → stepped s (l ++ m) ≡ stepped (stepped s l) m
unfolding stepped
stepped-append s [] m = refl
stepped-append s (e ∷ l) m = stepped-append (changed s (sets e)) l m

stepped-changed : (s : InForce) (events : List (Option Event)) → stepped s events ≡ changed s (last_set events)
unfolding stepped last_set
stepped-changed s [] = refl
stepped-changed s (e ∷ rest) = stepped-changed (changed s (sets e)) rest ∙ sym (changed_or s (last_set rest) (sets e))

pub stepped-in_force : (events : List (Option Event)) → stepped nothing_yet events ≡ in_force events
unfolding in_force
stepped-in_force events = stepped-changed nothing_yet events

pub written-append : (a b : List Reply) → written (a ++ b) ≡ written a ++ written b
unfolding written
written-append [] b = refl
written-append (r ∷ a) b =
    ap (λ (l : List ℕ). reply_text r ++ (code "\n" ∷ l)) (written-append a b) ∙ sym (append_assoc (reply_text r) (code "\n" ∷ written a) (written b))

-- ---- each reply is of its line and of what was set last before it, and of nothing else

pub one_for_each : (before events : List (Option Event)) → length (replies_behind before events) ≡ length events
unfolding replies_behind
one_for_each before [] = refl
one_for_each before (e ∷ rest) = ap suc (one_for_each (before ++ (e ∷ [])) rest)

behind-split : (b l m : List (Option Event)) → replies_behind b (l ++ m) ≡ replies_behind b l ++ replies_behind (b ++ l) m
unfolding replies_behind
behind-split b [] m = ap (λ (k : List (Option Event)). replies_behind k m) (sym (append-nil b))
behind-split b (e ∷ l) m =
    ap (λ (k : List Reply). reply (in_force b) e ∷ k)
    (behind-split (b ++ (e ∷ [])) l m
    ∙ ap (λ (k : List (Option Event)). replies_behind (b ++ (e ∷ [])) l ++ replies_behind k m) (append_assoc b (e ∷ []) l))

-- the replies to the lines in front do not depend on those behind
pub replies-split : (before rest : List (Option Event)) → replies (before ++ rest) ≡ replies before ++ replies_behind before rest
unfolding replies
replies-split before rest = behind-split [] before rest

-- the reply at a place of the log
unfoldable pub reply_at : ℕ → List (Option Event) → Reply
reply_at i events = get_or (replies events) i (number 0)

pub reply-at : (before : List (Option Event)) (e : Option Event) (rest : List (Option Event)) → reply_at (length before) (before ++ (e ∷ rest)) ≡ reply (in_force before) e
unfolding reply_at replies
reply-at before e rest =
    ap₂ (λ (l : List Reply) (n : ℕ). get_or l n (number 0)) (replies-split before (e ∷ rest)) (sym (one_for_each [] before))
    ∙ get_or-append_seam (replies before) (reply (in_force before) e) (replies_behind (before ++ (e ∷ [])) rest) (number 0)

-- what comes later does not matter, and of what came before only what is in force
pub reply_alike : (b c : List (Option Event)) (e : Option Event) (k m : List (Option Event)) → in_force b ≡ in_force c
    → reply_at (length b) (b ++ (e ∷ k)) ≡ reply_at (length c) (c ++ (e ∷ m))
reply_alike b c e k m h = reply-at b e k ∙ ap (λ (s : InForce). reply s e) h ∙ sym (reply-at c e m)

-- a point is answered as if it were asked alone of the last line that set something
pub asked_alone : (front : List (Option Event)) (o : Option Event) (back : List (Option Event)) (p : Pt) (rest : List (Option Event)) (s : InForce)
    → sets o ≡ some s → NoneSet back
    → reply_at (length (front ++ (o ∷ back))) ((front ++ (o ∷ back)) ++ (some (point p) ∷ rest)) ≡ reply_at 1 (o ∷ some (point p) ∷ [])
asked_alone front o back p rest s h n =
    reply_alike (front ++ (o ∷ back)) (o ∷ []) (some (point p)) rest [] (last-in_force front o back s h n ∙ sym (last-in_force [] o [] s h end))

-- and where none did, as the first line of a log
pub asked-first : (before : List (Option Event)) (p : Pt) (rest : List (Option Event)) → NoneSet before
    → reply_at (length before) (before ++ (some (point p) ∷ rest)) ≡ reply_at 0 (some (point p) ∷ [])
asked-first before p rest n = reply_alike before [] (some (point p)) rest [] (none_in_force before n ∙ sym (none_in_force [] end))

-- a line that sets nothing, a refused one among them, is answered by itself, and the others as where it is left out, which replies-split gives
pub refused_left_out : (before : List (Option Event)) (e : Option Event) (rest : List (Option Event)) → sets e ≡ none
    → replies (before ++ (e ∷ rest)) ≡ replies before ++ (reply (in_force before) e ∷ replies_behind before rest)
unfolding replies_behind
refused_left_out before e rest h =
    replies-split before (e ∷ rest)
    ∙ ap (λ (l : List Reply). replies before ++ (reply (in_force before) e ∷ l))
    (sym (stepping-behind (before ++ (e ∷ [])) rest)
    ∙ ap (λ (s : InForce). stepping s rest) (in_force_snoc before e ∙ ap (changed (in_force before)) h)
    ∙ stepping-behind before rest)

-- ---- what is in force has passed the point tests' refusals 3 and 4

pub data Sound : InForce → Type 0 where
  nothing-sound : Sound nothing_yet
  outline_sound : (corners : List Pt) → 1 ≤ length corners → length corners ≤ most_points → off_corners corners ≡ false
      → Sound (record { coords = coordinates corners; convex = false })
  convex-sound : (corners : List Pt) → length corners ≡ 3 → off_corners corners ≡ false → Sound (record { coords = coordinates corners; convex = true })

pub data SoundIfSet : Option InForce → Type 0 where
  nothing-set : SoundIfSet none
  sound-set : {s : InForce} → Sound s → SoundIfSet (some s)

rows_passed : (t u : Bool) → first_refusal (t gives 3 ∷ u gives 4 ∷ []) ≡ 0 → (t ≡ false) × (u ≡ false)
unfolding first_refusal
rows_passed true u h = absurd (omega arith)
rows_passed false true h = absurd (omega arith)
rows_passed false false h = (refl, refl)

-- an outline that is not refused
pub corners_pass : (corners : List Pt) → outline_refusal corners ≡ 0 → (length corners ≤ most_points) × (off_corners corners ≡ false)
unfolding outline_refusal
corners_pass corners h = go (rows_passed (ltb most_points (length corners)) (off_corners corners) h)
  where
    go : (ltb most_points (length corners) ≡ false) × (off_corners corners ≡ false) → (length corners ≤ most_points) × (off_corners corners ≡ false)
    go (a, b) = (ltb-false most_points (length corners) a, b)

put_sound : (convex : Bool) (corners : List Pt) → (outline_refusal corners ≡ 0 → Sound (record { coords = coordinates corners; convex = convex }))
    → SoundIfSet (putting convex corners)
unfolding putting
put_sound convex corners k = go (outline_refusal corners) k
  where
    go : (n : ℕ) → (n ≡ 0 → Sound (record { coords = coordinates corners; convex = convex }))
        → SoundIfSet (unless n (λ m. none) (some (record { coords = coordinates corners; convex = convex })))
    go zero k = sound-set (k refl)
    go (suc n) k = nothing-set

said_sound : {line : List ℕ} (e : Event) → Says line e → SoundIfSet (sets (some e))
unfolding sets
said_sound (polygon cs) s =
    put_sound false cs (λ h. outline_sound cs (ltb-true 0 (length cs) s.is_proper) (corners_pass cs h).0 (corners_pass cs h).1)
said_sound (triangle cs) s = put_sound true cs (λ h. convex-sound cs (eqb-true (length cs) 3 s.is_proper) (corners_pass cs h).1)
said_sound (point p) s = nothing-set

pub set-sound : {line : List ℕ} {e : Option Event} → Means line e → SoundIfSet (sets e)
unfolding sets
set-sound (in_form {event = e} s) = said_sound e s
set-sound (not_in_form k) = nothing-set

changed-sound : {s : InForce} {o : Option InForce} → Sound s → SoundIfSet o → Sound (changed s o)
changed-sound h nothing-set = h
changed-sound h (sound-set s) = s

-- from line to line
pub stepped-sound : {lines : List (List ℕ)} {events : List (Option Event)} {s : InForce} → AllMean lines events → Sound s → Sound (stepped s events)
unfolding stepped
stepped-sound no_lines h = h
stepped-sound (line_and m ms) h = stepped-sound ms (changed-sound h (set-sound m))

-- behind any lines that mean these events
pub in_force-sound : {lines : List (List ℕ)} {events : List (Option Event)} → AllMean lines events → Sound (in_force events)
in_force-sound {events = events} ms = subst Sound (stepped-in_force events) (stepped-sound ms nothing-sound)
