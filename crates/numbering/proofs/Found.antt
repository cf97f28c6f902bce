-- The search of places: what a turn of a loop knows of the whole of it.
use mathlib.Core.Path.{◌≡◌, refl, sym, ◌∙◌, subst}
use Prim.Native.Nat.{ℕ, ◌+◌, ◌-◌, ◌≤◌, ◌<◌}
use native.Mathlib.Omega.{arith}
use mathlib.Core.Bool.{Bool, false, ◌&&◌}
use lib.Ieee.{Float}
use Rattle.std.specs.Prelude.{Some, None}
use Rattle.laws.specs.Integer.{eq_z}
use Rattle.laws.specs.Bounded.{any, first}
use Rattle.laws.proofs.Search.{any_at, first-end, first-none, below-some, below-none, below-given, below-absent}
use Rattle.vector.specs.declared.Point.{Point}
use Rattle.keys.specs.declared.SoughtPoint.{SoughtPoint}
use Rattle.keys.specs.Keys.{key, key_of, near}
use Rattle.keys.proofs.Skip.{other}
use Rattle.nodes.specs.Nodes.{has_key}
use Rattle.nodes.specs.Growth.{InRange}
use Rattle.nodes.proofs.Scan.{part_hit, part-pass}
use Rattle.numbering.specs.Search.{found}

-- ---- a turn, where what is left of the search is the whole of it
module _ (p : ℕ → Bool) (f n i : ℕ) (e : first p (n - i) i ≡ first p (n - f) f) where
  pub ends : i ≡ n → None ≡ found p f n
  ends h = below-none n (first p (n - f) f) (sym e ∙ first-end p n i h)

-- ---- what is tested of a point q with the coordinates x and y
pub keyed : (w : SoughtPoint) (q : Point) (x y : Float) → x ≡ q.x → y ≡ q.y
    → has_key (key_of w.x) (key_of w.y) q ≡ (eq_z (key_of w.x) (key x) && eq_z (key_of w.y) (key y))
unfolding has_key
keyed w q x y a b = λ j. eq_z (key_of w.x) (key (sym a j)) && eq_z (key_of w.y) (key (sym b j))

pub far : (w : SoughtPoint) (q : Point) → InRange q → near w.x.scaled q.x ≡ false → has_key (key_of w.x) (key_of w.y) q ≡ false
unfolding has_key
far w q r e = rw (other w.x q.x r.0 w.sought.0 e)

-- ---- by blocks
-- at most 16 places before place t, where none of the 16 is near
pub none_near : (w : SoughtPoint) (at : ℕ → Point) (i t : ℕ) → i ≤ t → t ≤ i + 16 → 16 ≤ t → ((k : ℕ) → k < t → InRange (at k))
    → any (λ j. near w.x.scaled (at (t - 16 + j)).x) 16 ≡ false → None ≡ found (λ k. has_key (key_of w.x) (key_of w.y) (at k)) i t
none_near w at i t a b d r e =
    let z : i + (t - i) ≡ t = omega arith in
    below-none t _ (first-none (λ k. has_key (key_of w.x) (key_of w.y) (at k))
    (t - i) i (λ k x y. far w (at k) (r k (omega (arith, y, z))) (clear k x (omega (arith, y, z)))) ∙ z)
  where
    clear : (k : ℕ) → i ≤ k → k < t → near w.x.scaled (at k).x ≡ false
    clear k x y =
        let f : t - 16 + (k - (t - 16)) ≡ k = omega arith in
        subst (λ (m : ℕ). near w.x.scaled (at m).x ≡ false) f (any_at (λ j. near w.x.scaled (at (t - 16 + j)).x) 16 e (k - (t - 16)) (omega arith))

-- places i to t - 1 were looked at, and what is left of the search from i on is the whole of it
module _ (p : ℕ → Bool) (f n i t : ℕ) (h : i ≤ t) (k : t ≤ n) (e : first p (n - i) i ≡ first p (n - f) f) where
  pub block_hit : (j : ℕ) → Some j ≡ found p i t → Some j ≡ found p f n
  block_hit j o =
      let v = below-given t (first p (t - i) i) j o in
      below-some n (first p (n - f) f) j (sym (part_hit p n i t j h k v.0 v.1 ∙ e)) (omega (arith, v.1))

  pub block_pass : None ≡ found p i t → first p (n - t) t ≡ first p (n - f) f
  block_pass o = part-pass p n i t (first p (t - i) i) h k refl (below-absent t (first p (t - i) i) o) ∙ e
