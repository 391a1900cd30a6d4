-- What `strip_prefix` has told of a text.
use Rattle.std.proofs.Common.{ℕ, ◌+◌, ◌≡◌, ◌≢◌, true, false, List, ◌++◌, length, take, drop, Some, None, Bor}
use Rattle.std.proofs.lemmas.Bool.Decides.{Decides-eqb}
use Rattle.std.proofs.lemmas.Slice.Eq.{strip_prefix_is}
use Rattle.std.specs.Cmp.Lexicographic.{pointwise}
use lib.Dec.{eqb}

module _ (text word : List ℕ) where
  pub stripped : {rest : List ℕ} → (pointwise eqb (take (length word) text) word ≡ true) × (rest ≡ drop (length word) text) × (length rest + length word ≡ length text) → text ≡ word ++ rest
  stripped {rest} h = let behind : Bor (List ℕ) = record { ref_ptr = (0, 0); now = rest } in strip_prefix_is Decides-eqb text word (Some behind) h

  pub not_stripped : pointwise eqb (take (length word) text) word ≡ false → (rest : List ℕ) → text ≢ word ++ rest
  not_stripped h = strip_prefix_is Decides-eqb text word None h
