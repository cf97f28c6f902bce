-- Each case of the definitions as the code comes to it: the decade, a pair of coordinates, and the walk over the blocks.
use Prim.Native.Nat.{ℕ, zero, suc, ◌+◌, ◌-◌, ◌*◌, ◌/◌, ◌^◌, ◌≤◌, ◌<◌}
use mathlib.Core.Path.{◌≡◌, refl, sym, ap, ◌∙◌}
use mathlib.Core.List.{List, []}
use native.Mathlib.Nat.{pow-succ', pow-le-pow_right}
use native.Mathlib.Omega.{arith}
use native.Mathlib.Decide.{dec_le}
use lib.ListN.{get_or, take, drop}
use lib.Seq.{get_or-take}
use lib.IntN.{ℤ, pos}
use Rattle.std.specs.Prelude.{Ok, Err}
use Rattle.std.specs.Simd.{first_chunks}
use Rattle.laws.proofs.Chunks.{chunk_is, chunk_at}
use Rattle.svg.specs.Place.{point_place, unit_place}
use borrow.Author.Tests.{lt-ltb, le-ltb}
use Rattle.blocks.specs.declared.Reading.{Reading}
use Rattle.blocks.specs.declared.Refused.{Refused}
use Rattle.blocks.specs.Blocks.{read_block}
use Rattle.job.specs.Run.{block_at}
use Rattle.frame.specs.Seen.{Reach}
use Rattle.frame.specs.Bounds.{grown, decade_to, step_for, met, extended, extent_from}

pub grown-stays : (d size : ℕ) → size < d * 40 → d ≡ grown d size
unfolding grown
grown-stays d size h = rw (lt-ltb size (d * 40) h)

pub grown-more : (d size : ℕ) → d * 40 ≤ size → d * 10 ≡ grown d size
unfolding grown
grown-more d size h = rw (le-ltb size (d * 40) h)

module _ (size d : ℕ) (e : d ≡ decade_to size 7) where
  pub step-one : size < d * 8 → d ≡ step_for size
  unfolding step_for
  step-one h = rw (← e) (rw (lt-ltb size (d * 8) h))

  pub step-two : d * 8 ≤ size → size < d * 16 → d * 2 ≡ step_for size
  unfolding step_for
  step-two k h = rw (← e) (rw (le-ltb size (d * 8) k, lt-ltb size (d * 16) h))

  pub step_five : d * 8 ≤ size → d * 16 ≤ size → d * 5 ≡ step_for size
  unfolding step_for
  step_five k h = rw (← e) (rw (le-ltb size (d * 8) k, le-ltb size (d * 16) h))

-- while forty of it are no more than the size the decade grows: after i turns it is that power of ten. Then it stays
climbs : (size i : ℕ) → ((m : ℕ) → m < i → 10 ^ m * 40 ≤ size) → 10 ^ i ≡ decade_to size i
unfolding decade_to
climbs size zero h = refl
climbs size (suc i) h =
    let e = grown-more (10 ^ i) size (h i (omega arith)) in
    let p = pow-succ' 10 i in
    let q : 10 ^ suc i ≡ 10 ^ i * 10 = omega arith in
    q ∙ e ∙ ap (λ (d : ℕ). grown d size) (climbs size i (λ m l. h m (omega arith)))

settles : (size i d : ℕ) → d ≡ decade_to size i → size < d * 40 → (n : ℕ) → d ≡ decade_to size (n + i)
unfolding decade_to
settles size i d e h zero = let q : i ≡ 0 + i = omega arith in e ∙ ap (decade_to size) q
settles size i d e h (suc n) =
    let q : suc (n + i) ≡ suc n + i = omega arith in
    grown-stays d size h ∙ ap (λ (x : ℕ). grown x size) (settles size i d e h n) ∙ ap (decade_to size) q

decade-at : (size i : ℕ) → i ≤ 7 → ((m : ℕ) → m < i → 10 ^ m * 40 ≤ size) → size < 10 ^ i * 40 → 10 ^ i ≡ decade_to size 7
decade-at size i b h g =
    let n : (7 - i) + i ≡ 7 = omega arith in
    settles size i (10 ^ i) (climbs size i h) g (7 - i) ∙ ap (decade_to size) n

pub decade_one : (size : ℕ) → size < 40 → 1 ≡ decade_to size 7
decade_one size h = decade-at size 0 (omega arith) (λ m l. absurd (omega arith)) (omega arith)

-- the power above a fortieth of the size
seven : (k n : ℕ) → n ≤ 1000000 → 10 ^ k ≤ n → Dec (suc k ≤ 7) → suc k ≤ 7
seven k n b l (yes h) = h
seven k n b l (no h) = let p = pow-le-pow_right {n = 10} (omega arith) {i = 7} {j = k} (omega arith) in absurd (omega arith)

pub decade_above : (size k : ℕ) → size ≤ 40000000 → 10 ^ k ≤ size / 40 → size / 40 < 10 * 10 ^ k → 10 ^ (k + 1) ≡ decade_to size 7
decade_above size k b l g =
    let h = seven k (size / 40) (omega arith) l (dec_le (suc k) 7) in
    let s = pow-succ' 10 k in
    let a : k + 1 ≡ suc k = omega arith in
    ap (λ (n : ℕ). 10 ^ n) a
    ∙ decade-at size (suc k) h
    (λ m h. let p = pow-le-pow_right {n = 10} (omega arith) {i = m} {j = k} (omega arith) in omega arith)
    (omega arith)

-- a decade is a power of ten of seven turns at most
grown-bounds : (d size i : ℕ) → (0 < d) × (d ≤ 10 ^ i) → Dec (d * 40 ≤ size) → (0 < grown d size) × (grown d size ≤ 10 ^ suc i)
grown-bounds d size i h (yes k) = let e = grown-more d size k in let p = pow-succ' 10 i in (omega (arith, e, h.0), omega (arith, e, p, h.1))
grown-bounds d size i h (no k) = let e = grown-stays d size (omega arith) in let p = pow-succ' 10 i in (omega (arith, e, h.0), omega (arith, e, p, h.1))

bounds-to : (size i : ℕ) → (0 < decade_to size i) × (decade_to size i ≤ 10 ^ i)
unfolding decade_to
bounds-to size zero = (omega arith, omega arith)
bounds-to size (suc i) = grown-bounds (decade_to size i) size i (bounds-to size i) (dec_le (decade_to size i * 40) size)

pub decade_bounds : (size : ℕ) → (0 < decade_to size 7) × (decade_to size 7 ≤ 10000000)
decade_bounds size = let b = bounds-to size 7 in (b.0, omega (arith, b.1))

-- pair i of a block's coordinates, among the first m pairs
module _ (ps : List ℤ) (m n i : ℕ) (pairs : List (List ℤ)) (e : pairs ≡ first_chunks 2 n ps) (l : i < m) (h : i < n) where
  place : (k : ℕ) → k < 2 → point_place (get_or (take m pairs) i []) k ≡ point_place ps (i * 2 + k)
  unfolding point_place
  place k b =
      let a = get_or-take m pairs i [] l ∙ ap (λ fs. get_or fs i []) e in
      ap (λ p. unit_place (get_or p k (pos 0))) a ∙ ap unit_place (chunk_at 2 n i k ps (pos 0) h b)

  pub x_place : point_place (get_or (take m pairs) i []) 0 ≡ point_place ps (i * 2)
  x_place = let z : i * 2 + 0 ≡ i * 2 = omega arith in place 0 (omega arith) ∙ ap (point_place ps) z

  pub y_place : point_place (get_or (take m pairs) i []) 1 ≡ point_place ps (i * 2 + 1)
  y_place = place 1 (omega arith)

-- block i of a job, among its whole blocks
block_of : (l : List ℕ) (n i : ℕ) → i < n → get_or (first_chunks 512 n l) i [] ≡ block_at l i
block_of l n i h = chunk_is 512 n i l h ∙ ap (λ (k : ℕ). take 512 (drop k l)) (omega arith)

-- the walk over the blocks, at block i, which is read as r
module _ (l : List ℕ) (n i : ℕ) (e : Reach) (h : i < n) (whole : List (List ℕ)) (f : whole ≡ first_chunks 512 n l) where
  same-block : get_or whole i [] ≡ block_at l i
  same-block = ap (λ (bs : List (List ℕ)). get_or bs i []) f ∙ block_of l n i h

  one-more : extent_from l (n - i) i e ≡ extended e (read_block (get_or whole i []) i) (extent_from l (n - (i + 1)) (i + 1))
  unfolding extent_from
  one-more =
      let a : n - i ≡ suc (n - (i + 1)) = omega arith in
      let b : suc i ≡ i + 1 = omega arith in
      ap (λ (k : ℕ). extent_from l k i e) a
      ∙ (λ j. extended e (read_block (sym same-block j) i) (extent_from l (n - (i + 1)) (b j)))

  pub goes_on : (r : Reading) → read_block (get_or whole i []) i ≡ Ok r → extent_from l (n - i) i e ≡ extent_from l (n - (i + 1)) (i + 1) (met e r)
  unfolding extended
  goes_on r q = one-more ∙ rw q

  pub ends : (x : Refused) → read_block (get_or whole i []) i ≡ Err x → extent_from l (n - i) i e ≡ e
  unfolding extended
  ends x q = one-more ∙ rw q

pub at_end : (l : List ℕ) (n i : ℕ) (e : Reach) → n ≤ i → extent_from l (n - i) i e ≡ e
unfolding extent_from
at_end l n i e h = let z : n - i ≡ 0 = omega arith in rw z
