-- Words in bytes: four each, low byte first. Bytes past the last whole four are no word.
use Rattle.std.specs.Prelude.{ℕ, ◌+◌, ◌*◌, ◌/◌, ◌%◌, List, [], ◌∷◌, map, get_or, false, cond, pos, Float}
use Rattle.std.specs.Float.{fin, binary32}
use Rattle.std.specs.Float.Ieee.{of_bits, to_bits, le}

unfoldable pub words_of : List ℕ → List ℕ
words_of [] = []
words_of (a ∷ []) = []
words_of (a ∷ b ∷ []) = []
words_of (a ∷ b ∷ c ∷ []) = []
words_of (a ∷ b ∷ c ∷ d ∷ rest) = (a + b * 256 + c * 65536 + d * 16777216) ∷ words_of rest

-- the words as f32's bits
unfoldable pub floats_of : List ℕ → List Float
unfolding words_of of_bits
floats_of bytes = map (of_bits binary32) (words_of bytes)

unfoldable pub bytes_of : List ℕ → List ℕ
bytes_of [] = []
bytes_of (w ∷ rest) = (w % 256) ∷ (w / 256 % 256) ∷ (w / 65536 % 256) ∷ (w / 16777216 % 256) ∷ bytes_of rest

-- the bits of a float that is not below zero, and all bits for any other
abbrev pub bits_of : Float → ℕ
bits_of x = cond (le (fin false 0 (pos 0)) x) (to_bits binary32 x) 4294967295

-- word number i
abbrev pub word_at : List ℕ → ℕ → ℕ
word_at bytes i = get_or bytes (i * 4) 0 + get_or bytes (i * 4 + 1) 0 * 256 + get_or bytes (i * 4 + 2) 0 * 65536 + get_or bytes (i * 4 + 3) 0 * 16777216
