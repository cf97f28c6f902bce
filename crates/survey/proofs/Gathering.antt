-- How a collection goes on (`Gathered`): past a place that is not in the box, or past several; over the next place that is;
-- and when it is full. What is collected of them is then what the search asks for.
use mathlib.Core.Path.{◌≡◌, refl, sym, ap, ◌∙◌, subst}
use mathlib.Core.List.{List, [], ◌∷◌, ◌++◌, map-append, append_assoc}
use Prim.Native.Nat.{ℕ, suc, ◌+◌, ◌-◌, ◌*◌, ◌≤◌, ◌<◌}
use native.Mathlib.Nat.{le_refl, min-le_left}
use native.Mathlib.Numerals.{add-one}
use native.Mathlib.Omega.{arith}
use mathlib.Core.Bool.{Bool, true, false}
use borrow.Author.Tests.{le-leb, lt-leb, leb-false}
use lib.Dec.{leb}
use lib.ListN.{length, get_or, take, drop, set, length-append, length-take, length-drop, length-map}
use lib.Seq.{take_all, take_at, take-append-le, drop-cons, set_at}
use lib.Ieee.{Float, nan}
use Rattle.nodes.specs.Flat.{node_in_of}
use Rattle.nodes.specs.declared.nearby.RingBox.{RingBox}
use Rattle.nodes.specs.declared.nearby.Nearby.{Nearby}
use Rattle.nodes.specs.Nearby.{most_nearby, chosen, Framed, in_box, inside_at, inside, xs_of, CollectedOf, ValidNearby}
use Rattle.nodes.proofs.Chosen.{beyond, pass, hit, skip}
use Rattle.survey.specs.Survey.{counted, laid, nearby, Gathered}

-- where branches join
pub carried : (P : List ℕ → List Float → ℕ → Type 0) (numbers numbers' : List ℕ) (xs xs' : List Float) (k k' : ℕ) → numbers' ≡ numbers → xs' ≡ xs → k' ≡ k
    → P numbers xs k → P numbers' xs' k'
carried P numbers numbers' xs xs' k k' d e f p =
    subst (λ (z : List ℕ). P z xs' k') (sym d) (subst (λ (z : List Float). P numbers z k') (sym e) (subst (λ (z : ℕ). P numbers xs z) (sym f) p))

-- ---- how many are collected
low : (n : ℕ) → n ≤ most_nearby → counted n ≡ n
unfolding counted
low n h = rw (le-leb n most_nearby h)

over_full : (n : ℕ) → most_nearby < n → counted n ≡ suc most_nearby
unfolding counted
over_full n h = rw (lt-leb n most_nearby h)

few : (n r : ℕ) → r ≡ counted n → r ≤ most_nearby → n ≡ r
unfolding counted
few n r e h = go (leb n most_nearby) refl
  where
    go : (b : Bool) → leb n most_nearby ≡ b → n ≡ r
    go true t = sym (e ∙ rw t)
    go false t = absurd (omega (arith, h, e ∙ over))
      where
        over : counted n ≡ suc most_nearby
        over = rw t

many : (n r : ℕ) → r ≡ counted n → most_nearby < r → most_nearby < n
unfolding counted
many n r e h = go (leb n most_nearby) refl
  where
    go : (b : Bool) → leb n most_nearby ≡ b → most_nearby < n
    go true t = let z : r ≡ n = e ∙ rw t in omega arith
    go false t = leb-false n most_nearby t

-- ---- the lists
module _ {ℓ} {A : Type ℓ} where
  laid_none : (l : List A) → l ≡ laid [] l
  unfolding laid
  laid_none l = refl

  laid-short : (u l : List A) → length u ≤ most_nearby → laid u l ≡ u ++ drop (length u) l
  unfolding laid
  laid-short u l h = rw (take_all most_nearby u h)

  laid_more : (u l : List A) (x : A) → length u < most_nearby → length l ≡ most_nearby → set (laid u l) (length u) x ≡ laid (u ++ (x ∷ [])) l
  laid_more u l x h e =
      let n : length (u ++ (x ∷ [])) ≡ suc (length u) = length-append u (x ∷ []) ∙ add-one (length u) in
      ap (λ (v : List A). set v (length u) x) (laid-short u l (omega arith) ∙ ap (λ (v : List A). u ++ v) (drop-cons l (length u) x (omega (arith, h, e))))
      ∙ set_at u (get_or l (length u) x) (drop (suc (length u)) l) x (length u) refl
      ∙ sym (laid-short (u ++ (x ∷ [])) l (omega (arith, n, h)) ∙ ap (λ (k : ℕ). (u ++ (x ∷ [])) ++ drop k l) n
      ∙ append_assoc u (x ∷ []) (drop (suc (length u)) l))

  laid_full : (u v l : List A) → most_nearby ≤ length u → laid (u ++ v) l ≡ laid u l
  unfolding laid
  laid_full u v l h = rw (take-append-le most_nearby u v h)

  laid-length : (u l : List A) → length l ≡ most_nearby → length (laid u l) ≡ most_nearby
  unfolding laid
  laid-length u l e =
      omega (
        arith,
        e,
        length-append (take most_nearby u) (drop (length (take most_nearby u)) l),
        length-drop (length (take most_nearby u)) l,
        length-take most_nearby u,
        min-le_left most_nearby (length u),
      )

  laid-take : (u l : List A) → length u ≤ most_nearby → take (length u) (laid u l) ≡ u
  laid-take u l h = ap (take (length u)) (laid-short u l h) ∙ take_at u (drop (length u) l) (length u) refl

-- ---- one collection, over the lists a and b
module _ (l : List Float) (w : RingBox) (a : List ℕ) (b : List Float) where
  abbrev U : ℕ → List ℕ
  U n = inside w l n

  abbrev x_at : ℕ → Float
  x_at k = (node_in_of l k).x

  abbrev G : ℕ → List ℕ → List Float → ℕ → Type 0
  G n numbers xs r = Gathered l w n a b numbers xs r

  pub start : G 0 a b 0
  unfolding chosen counted
  start = record { count = refl; are = laid_none a; are_x = laid_none b }

  same : (m n r : ℕ) (numbers : List ℕ) (xs : List Float) → U n ≡ U m → G m numbers xs r → G n numbers xs r
  same m n r numbers xs e g =
      record {
        count = g.count ∙ ap (λ (u : List ℕ). counted (length u)) (sym e);
        are = g.are ∙ ap (λ (u : List ℕ). laid u a) (sym e);
        are_x = g.are_x ∙ ap (λ (u : List ℕ). laid (xs_of l u) b) (sym e);
      }

  -- places that are not in the box
  pub past : (i k : ℕ) (numbers : List ℕ) (xs : List Float) → inside_at w l i ≡ false → G i numbers xs k → G (i + 1) numbers xs k
  past i k numbers xs h g = same i (i + 1) k numbers xs (pass (inside_at w l) i h) g

  pub past_all : (m n k : ℕ) (numbers : List ℕ) (xs : List Float) → m ≤ n → ((i : ℕ) → m ≤ i → i < n → inside_at w l i ≡ false) → G m numbers xs k
      → G n numbers xs k
  past_all m n k numbers xs h f g = same m n k numbers xs (skip (inside_at w l) m n h f) g

  -- one that is, and goes to the next place
  module _ (i k : ℕ) (numbers : List ℕ) (xs : List Float) (t : inside_at w l i ≡ true) (g : G i numbers xs k) where
    next : U (i + 1) ≡ U i ++ (i ∷ [])
    next = hit (inside_at w l) i t

    longer : length (U (i + 1)) ≡ suc (length (U i))
    longer = ap length next ∙ length-append (U i) (i ∷ []) ∙ add-one (length (U i))

    pub put : k < most_nearby → length a ≡ most_nearby → length b ≡ most_nearby → G (i + 1) (set numbers k i) (set xs k (node_in_of l i).x) (k + 1)
    put h p q =
        let n : length (U i) ≡ k = few (length (U i)) k g.count (omega arith) in
        let nx : length (xs_of l (U i)) ≡ k = length-map (U i) x_at ∙ n in
        let e : xs_of l (U (i + 1)) ≡ xs_of l (U i) ++ ((node_in_of l i).x ∷ []) = ap (xs_of l) next ∙ map-append x_at (U i) (i ∷ []) in
        record {
          count = add-one k ∙ ap suc (sym n) ∙ sym longer ∙ sym (low (length (U (i + 1))) (omega (arith, longer, n, h)));
          are = (λ j. set (g.are j) (sym n j) i) ∙ laid_more (U i) a i (omega (arith, n, h)) p ∙ ap (λ (u : List ℕ). laid u a) (sym next);
          are_x =
              (λ j. set (g.are_x j) (sym nx j) (node_in_of l i).x) ∙ laid_more (xs_of l (U i)) b (node_in_of l i).x (omega (arith, nx, h)) q
              ∙ ap (λ (u : List Float). laid u b) (sym e);
        }

  -- more than the lists take: all that comes after changes nothing
  more : (m n r : ℕ) (numbers : List ℕ) (xs : List Float) → m ≤ n → most_nearby ≤ length (U m) → r ≡ counted (length (U n)) → numbers ≡ laid (U m) a
      → xs ≡ laid (xs_of l (U m)) b → G n numbers xs r
  more m n r numbers xs h k c e f =
      let v = U n in
      let s = beyond (inside_at w l) m n h in
      let z : xs_of l (U n) ≡ xs_of l (U m) ++ xs_of l (chosen (inside_at w l) (n - m) m) =
      ap (xs_of l) s ∙ map-append x_at (U m) (chosen (inside_at w l) (n - m) m) in
      record {
        count = c;
        are = e ∙ sym (ap (λ (u : List ℕ). laid u a) s ∙ laid_full (U m) (chosen (inside_at w l) (n - m) m) a k);
        are_x =
            f ∙ sym (ap (λ (u : List Float). laid u b) z
            ∙ laid_full (xs_of l (U m)) (xs_of l (chosen (inside_at w l) (n - m) m)) b (omega (arith, k, length-map (U m) x_at)));
      }

  up : (m n : ℕ) → m ≤ n → length (U m) ≤ length (U n)
  up m n h = omega (arith, ap length (beyond (inside_at w l) m n h) ∙ length-append (U m) (chosen (inside_at w l) (n - m) m))

  pub later : (m n r : ℕ) (numbers : List ℕ) (xs : List Float) → m ≤ n → most_nearby < r → G m numbers xs r → G n numbers xs r
  later m n r numbers xs h k g =
      let o = many (length (U m)) r g.count k in
      let c : counted (length (U m)) ≡ counted (length (U n)) = over_full (length (U m)) o ∙ sym (over_full (length (U n)) (omega (arith, o, up m n h))) in
      more m n r numbers xs h (omega (arith, o)) (g.count ∙ c) g.are g.are_x

  -- one in the box, where the places are all taken
  pub full : (i n k r : ℕ) (numbers : List ℕ) (xs : List Float) → inside_at w l i ≡ true → i < n → most_nearby ≤ k → k ≤ most_nearby → r ≡ suc most_nearby
      → G i numbers xs k → G n numbers xs r
  full i n k r numbers xs t h p q e g =
      let o : length (U i) ≡ k = few (length (U i)) k g.count q in
      let u : length (U i) < length (U n) = omega (arith, longer i k numbers xs t g, up (i + 1) n (omega arith)) in
      more i n r numbers xs (omega arith) (omega (arith, o, p)) (e ∙ sym (over_full (length (U n)) (omega (arith, u, o, p)))) g.are g.are_x

  -- ---- what the search asks for
  pub collected : (n r : ℕ) (numbers : List ℕ) (xs : List Float) → length a ≡ most_nearby → length b ≡ most_nearby → r ≤ most_nearby → G n numbers xs r
      → CollectedOf l w n numbers xs r
  collected n r numbers xs p q h g =
      let o : length (U n) ≡ r = few (length (U n)) r g.count h in
      let ox : length (xs_of l (U n)) ≡ r = length-map (U n) x_at ∙ o in
      record {
        places = ap length g.are ∙ laid-length (U n) a p;
        places_x = ap length g.are_x ∙ laid-length (xs_of l (U n)) b q;
        few = h;
        are = (λ j. take (sym o j) (g.are j)) ∙ laid-take (U n) a (omega (arith, o, h));
        are_x = (λ j. take (sym ox j) (g.are_x j)) ∙ laid-take (xs_of l (U n)) b (omega (arith, ox, h));
      }

  pub held : (old : ℕ) (r : Nearby) (numbers : List ℕ) (xs : List Float) → length a ≡ most_nearby → length b ≡ most_nearby → Framed w → r ≡ nearby w l old
      → numbers ≡ laid (inside w l old) a → xs ≡ laid (xs_of l (inside w l old)) b → ValidNearby l old r numbers xs
  held old r numbers xs p q f e c d =
      subst (λ (r : Nearby). ValidNearby l old r numbers xs) (sym e)
      (record {
        old = le_refl old;
        framed = f;
        complete = λ h. collected old (counted (length (inside w l old))) numbers xs p q h
            (record { count = refl; are = c; are_x = d });
      })

-- ---- the 8 nodes from place m on, with numbers x, of which none is in the box
pub none-seen : (l : List Float) (w : RingBox) (m : ℕ) (x : List Float) → ((j : ℕ) → j < 16 → get_or x j nan ≡ get_or l (m * 2 + j) nan)
    → ((j : ℕ) → j < 8 → in_box w (get_or x (j * 2) nan) (get_or x (j * 2 + 1) nan) ≡ false)
    → (i : ℕ) → m ≤ i → i < m + 8 → inside_at w l i ≡ false
unfolding inside_at
none-seen l w m x e f i p q =
    let j = i - m in
    let b : j < 8 = omega arith in
    sym (λ t. in_box w (at (j * 2) (i * 2) (omega arith) (omega arith) t) (at (j * 2 + 1) (i * 2 + 1) (omega arith) (omega arith) t)) ∙ f j b
  where
    at : (h d : ℕ) → h < 16 → m * 2 + h ≡ d → get_or x h nan ≡ get_or l d nan
    at h d b z = e h b ∙ ap (λ (k : ℕ). get_or l k nan) z
