-- Document 01's numbers of the refusals, and what is reported: a number, 0 where nothing is refused, and a count, 0 beside a refusal.
use Rattle.std.specs.Prelude.{ℕ, Result, Ok, Err}
use Rattle.entries.specs.declared.Answer.{Answer}
use Rattle.entries.specs.declared.Refusal.{Refusal}
use Rattle.entries.specs.declared.Refusal.TheVariants.{OddCoordinates, TooFewPoints, TooManyPoints, OffGrid, EqualNeighbours, TooLittleRoom, NoEar, NotTriples, NoSuchPoint, TooManyTriangles, NotInForm, OnOneLine, AreaNotAboveZero}

abbrev pub number_of : Refusal → ℕ
number_of OddCoordinates = 1
number_of TooFewPoints = 2
number_of TooManyPoints = 3
number_of OffGrid = 4
number_of EqualNeighbours = 5
number_of TooLittleRoom = 6
number_of NoEar = 7
number_of NotTriples = 8
number_of NoSuchPoint = 9
number_of TooManyTriangles = 10
number_of NotInForm = 11
number_of OnOneLine = 12
number_of AreaNotAboveZero = 13

abbrev pub refused : {A : Type 0} → Result A Refusal → ℕ
refused (Ok x) = 0
refused (Err r) = number_of r

abbrev pub answer_of : Result ℕ Refusal → Answer
answer_of (Ok count) = record { number = 0; count = count }
answer_of (Err r) = record { number = number_of r; count = 0 }
