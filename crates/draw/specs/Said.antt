-- What a read came to, and the words that `draw` says for a number: of what is wrong with a drawing, or of why it was cut short. Definitions only.
use Rattle.std.specs.Prelude.{ℕ, cond, Option, None, List, slice_get, eqb, Ok, Err}
use Rattle.std.specs.declared.result.Result.{Result}
use Rattle.text.specs.Text.{bytes}
use Rattle.draw.specs.declared.Failure.{Failure}
use Rattle.draw.specs.declared.Failure.TheVariants.{Reading, Writing}

-- a read into some bytes: it failed, the input has ended, or the first of them
abbrev pub came_to : {E : Type 0} → Result ℕ E → List ℕ → Result (Option ℕ) Failure
came_to (Ok k) bytes = Ok (cond (eqb k 0) None (slice_get bytes 0))
came_to (Err e) bytes = Err Reading

-- 30 and 31 are those of standard input and output
abbrev pub number_of_failure : Failure → ℕ
number_of_failure Reading = 30
number_of_failure Writing = 31

-- 25 to 29 are those of too much, 30 and 31 of standard input and output
unfoldable pub said_more : ℕ → List ℕ
said_more n =
    cond (eqb n 25) (bytes "expected no more than 60 points in a ring\n")
    (cond (eqb n 26) (bytes "expected no more than 60 points in a chain\n")
    (cond (eqb n 27) (bytes "expected no more than one `chain` in a ring\n")
    (cond (eqb n 28) (bytes "expected no more than 80 characters beside a comment\n")
    (cond (eqb n 29) (bytes "expected no more than 16777216 characters in a drawing\n")
    (cond (eqb n 30) (bytes "draw: standard input failed\n")
    (bytes "draw: standard output failed\n"))))))

-- 1 and 12 are the writer's, 21 to 24 those of a line
unfoldable pub said : ℕ → List ℕ
said n =
    cond (eqb n 1) (bytes "expected 3 to 60 points in the ring that begins here\n")
    (cond (eqb n 12) (bytes "expected no more than 32768 rings\n")
    (cond (eqb n 21) (bytes "expected `ring SIZE`, `chain`, or a point `x y` in mm, such as 12.5 -3\n")
    (cond (eqb n 22) (bytes "expected a sheet size after `ring`, a whole number from 1 to 2048\n")
    (cond (eqb n 23) (bytes "expected coordinates from -1024 to 1024 mm\n")
    (cond (eqb n 24) (bytes "expected `ring SIZE` before the first point or `chain`\n")
    (said_more n))))))
