-- For a caller that takes the answer of `subdivide_all` apart: what the pieces came to in each of its cases.
use mathlib.Core.Path.{◌≡◌, refl, sym, ap}
use mathlib.Core.List.{List}
use Prim.Native.Nat.{ℕ}
use native.Mathlib.Omega.{arith}
use lib.ListN.{length}
use Rattle.vector.specs.declared.Point.{Point}
use Rattle.quads.specs.declared.Cell.{Cell}
use Rattle.cells.specs.Pieces.{Outcome, done, failed}
use Rattle.std.specs.Prelude.{Ok, Err}
use Rattle.pieces.specs.declared.Laid.{Laid}
use Rattle.pieces.specs.declared.FailedPiece.{FailedPiece}
use Rattle.pieces.specs.Flat.{PiecesRow, row, row_of}

-- all are done, with u nodes in all and c cells
pub record AllDone (o : Outcome) (u c : ℕ) : Type 0 where
  pub ns : List Point
  pub cs : List Cell
  pub is : o ≡ done ns cs
  pub nodes : u ≡ length ns
  pub cells : c ≡ length cs

-- cell k of a piece of n corners failed, with u nodes in all
pub record OneFailed (o : Outcome) (n k u : ℕ) : Type 0 where
  pub ns : List Point
  pub is : o ≡ failed ns n k
  pub nodes : u ≡ length ns

pub if_done : (o : Outcome) {d : Laid} → row (Ok d) ≡ row_of o → AllDone o d.nodes d.cells
if_done (done ns cs) e = record { ns = ns; cs = cs; is = refl; nodes = ap (λ (r : PiecesRow). r.nodes) e; cells = ap (λ (r : PiecesRow). r.cells) e }
if_done (failed ns n k) e = let z : ◌≡◌ {A = ℕ} 0 8 = ap (λ (r : PiecesRow). r.code) e in absurd (omega arith)

pub if_failed : (o : Outcome) {f : FailedPiece} → row (Err f) ≡ row_of o → OneFailed o f.corners f.k f.nodes
if_failed (done ns cs) e = let z : ◌≡◌ {A = ℕ} 8 0 = ap (λ (r : PiecesRow). r.code) e in absurd (omega arith)
if_failed (failed ns n k) e =
    record {
      ns = ns;
      is = λ j. failed ns (sym (ap (λ (r : PiecesRow). r.corners) e) j) (sym (ap (λ (r : PiecesRow). r.k) e) j);
      nodes = ap (λ (r : PiecesRow). r.nodes) e;
    }
