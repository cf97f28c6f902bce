-- The loop over the nodes: the line that was put is the whole of its list (`whole-line`), it is owed (`owes`), and once it is sent the lines so far are one
-- more (`more-lines`); and where a run has ended, its lines are the input's sheet (`finished`).
use Prim.Native.Nat.{ℕ, ◌+◌, ◌<◌, ◌≤◌}
use mathlib.Core.Path.{◌≡◌, refl, sym, ap, ◌∙◌, subst}
use mathlib.Core.List.{List}
use native.Mathlib.Omega.{arith}
use native.Mathlib.Numerals.{add-one}
use lib.ListN.{length, take, length-append}
use lib.Seq.{take_all, take_at}
use lib.Ieee.{Float}
use Rattle.std.specs.declared.option.Option.{Option}
use Rattle.std.specs.Io.KnownBytes.{Appends}
use Rattle.std.proofs.KnownBytes.{Appends-nil, Appends-trans}
use Rattle.text.specs.Text.{put, Written}
use Rattle.listing.specs.Sheet.{line, lines}
use Rattle.listing.proofs.Texts.{line-long, lines_long}
use Rattle.job.specs.Run.{RunSoFar}
use Rattle.job.proofs.Printed.{settles}
use Rattle.telling.specs.Reached.{EndedWith}
use Rattle.sheet_lines.specs.Sheeted.{sheeted, Finished}

-- the line fills a list of 65 bytes
pub whole-line : (l : List Float) (i : ℕ) → i < 1000000 → (out : List ℕ) (r : ℕ) (m : List ℕ) → Written out 0 (line l i) r m → length m ≡ 65 → m ≡ line l i
unfolding put
whole-line l i h out r m w e = sym (take_all 65 m (omega arith)) ∙ ap (take 65) w.list ∙ take_at (line l i) _ 65 (line-long l i h)

-- the lines so far: none, and one more
pub none_written : (l : List Float) → 0 ≡ length (lines l 0)
unfolding lines
none_written l = refl

pub more-lines : (l : List Float) (i sent n : ℕ) (t : List ℕ) → sent ≡ length (lines l i) → t ≡ line l i → n ≡ sent + length t → n ≡ length (lines l (i + 1))
unfolding lines
more-lines l i sent n t e d h = rw (add-one i) (omega (arith, h, e, ap length d, length-append (lines l i) (line l i)))

-- and what a writer holds has grown by them
pub none_held : (l : List Float) (a : Option (List ℕ)) → Appends a a (lines l 0)
unfolding lines
none_held l a = Appends-nil a

pub more_held : (l : List Float) (i : ℕ) (old mid new : Option (List ℕ)) (t : List ℕ) → t ≡ line l i → Appends old mid (lines l i) → Appends mid new t
    → Appends old new (lines l (i + 1))
unfolding lines
more_held l i old mid new t e a b =
    rw (add-one i) (Appends-trans old mid new (lines l i) (line l i) a (subst (λ (x : List ℕ). Appends mid new x) e b))

-- there is room in the count for a line
pub few_bytes : (l : List Float) (i sent : ℕ) (t : List ℕ) → i < 1000000 → sent ≡ length (lines l i) → t ≡ line l i → sent + length t ≤ 65000065
few_bytes l i sent t h e d = omega (arith, e, ap length d, line-long l i h, lines_long l i (omega arith))

-- the lines of a run that has ended are the sheet of what it read
pub sheet_of : (used : ℕ) (l : List Float) (w : EndedWith used l) → lines l used ≡ sheeted w.input
unfolding sheeted
sheet_of used l w =
    let s = settles w.input w.blocks w.ended in
    let a = w.nodes ∙ ap (λ (r : RunSoFar). r.nodes) s in
    let b = w.count ∙ ap (λ (r : RunSoFar). r.state.used) s in
    λ i. lines (a i) (b i)

pub finished : (used : ℕ) (l : List Float) (sent : ℕ) → EndedWith used l → sent ≡ length (lines l used) → Finished sent
finished used l sent w e = record { input = w.input; bytes = w.bytes; all = e ∙ ap length (sheet_of used l w) }
