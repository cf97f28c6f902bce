-- Card 12: what a ring leaves of the rim marks, accepted or refused, of every entry, for every set of limits and whatever the lists held before
-- (`rims-left_by`). The marks are those that its asks leave, each of them for a node that is then listed; every new node was
-- asked for; a mark that was set stays set; a refusal other than 8 changes none; and there is a mark for each used node if there was before.
use Prim.Native.Nat.{ℕ, ◌≤◌, ◌<◌}
use native.Mathlib.Omega.{arith}
use mathlib.Core.Path.{◌≡◌, refl, sym, ap, ◌∙◌, subst}
use mathlib.Core.Bool.{Bool, true, false, not, ◌&&◌, ◌||◌, cond}
use mathlib.Core.List.{List, []}
use lib.ListN.{length, get_or}
use lib.Seq.{length-take-le}
use lib.Dec.{T, eqb}
use Rattle.laws.specs.All.{All}
use Rattle.marks.specs.Part.{Part}
use Rattle.limits.specs.declared.Limits.{Limits}
use Rattle.split.specs.Split.{Stack, split_bad_vertices}
use Rattle.cells.specs.Stages.{nodes_of}
use Rattle.cells.specs.Pieces.{Outcome, done, failed}
use Rattle.cells.specs.Asks.{Ask, all_marked}
use Rattle.cells.specs.Rims.{rims_by, AskedFor}
use Rattle.cells.proofs.Rims.{rims-none, rims_length, rims-stay}
use Rattle.cells.proofs.Asking.{asks-listed, asks-cover}
use Rattle.table.specs.Refusals.{Refusal, Passes, turns_away, numbered}
use Rattle.call.specs.Call.{Lists, used_in}
use Rattle.call.specs.Divide.{CallAnswer, refused, refused_or, answered, asked, rims_left, core}
use Rattle.call.specs.Demand.{Prepared, pieces_of}
use Rattle.call.specs.LentCalls.{laid_out}
use Rattle.call.proofs.Course.{outcome_of, Divisible, Course, away, ran, course, refused-code}
use Rattle.call.proofs.NodeList.{fits}

-- what the ring p asks for over the lists x, a being the answer
abbrev pub asks_by : Limits → Part → Lists → CallAnswer → List Ask
asks_by L p x a = cond (laid_out a.row.code) (asked L p (used_in x)) []

pub record RimsLeft (L : Limits) (p : Part) (x : Lists) (a : CallAnswer) : Type 0 where
  pub rims : a.rims ≡ rims_by x.node_count_of a.row.nodes (asks_by L p x a) x.rims
  pub listed : All (λ (q : Ask). q.node < a.row.nodes) (asks_by L p x a)
  pub cover : (k : ℕ) → x.node_count_of ≤ k → k < a.row.nodes → AskedFor (asks_by L p x a) k
  pub beside : x.node_count_of ≤ length x.rims → a.row.nodes ≤ length a.rims
  pub kept : laid_out a.row.code ≡ false → a.rims ≡ x.rims

-- a set mark of a used node stays set
pub set-kept : (L : Limits) (p : Part) (x : Lists) (a : CallAnswer) → RimsLeft L p x a → (k : ℕ) → k < x.node_count_of → k < length x.rims
    → get_or x.rims k 0 ≡ 1 → get_or a.rims k 0 ≡ 1
set-kept L p x a h k l m e = rw h.rims (rims-stay x.node_count_of a.row.nodes (asks_by L p x a) x.rims k l m e)

-- ---- refused
away_lays : (n : ℕ) → T (turns_away n) → laid_out n ≡ false
away_lays n t = go (eqb n 0) (eqb n 8) t
  where
    go : (a b : Bool) → T (not a && not b) → (a || b) ≡ false
    go true b t = absurd t
    go false true t = absurd t
    go false false t = refl

module _ (L : Limits) (p : Part) (x : Lists) (n : ℕ) (t : T (turns_away n)) where
  nothing : asks_by L p x (refused x n) ≡ []
  nothing = ap (λ (b : Bool). cond b (asked L p (used_in x)) []) (ap laid_out (refused-code x n) ∙ away_lays n t)

  refused-left : RimsLeft L p x (refused x n)
  unfolding refused
  refused-left =
      record {
        rims = sym (ap (λ (qs : List Ask). rims_by x.node_count_of x.node_count_of qs x.rims) nothing ∙ rims-none x.node_count_of x.rims);
        listed = rw nothing tt;
        cover = λ k u v. absurd (omega (arith, u, v));
        beside = λ h. h;
        kept = λ h. refl;
      }

-- ---- laid out
answered-rims : (L : Limits) (r : ℕ) (p : Part) (x : Lists) (s : Stack) (o : Outcome) → let a =
    answered L r p x s o in (laid_out a.row.code ≡ true) × (a.row.nodes ≡ length (nodes_of o)) × (a.rims ≡ rims_left L p x (length (nodes_of o)))
unfolding answered
answered-rims L r p x s (done ns cs) = (refl, refl, refl)
answered-rims L r p x s (failed ns n k) = (refl, refl, refl)

module _ (L : Limits) (r : ℕ) (p : Part) (x : Lists) where
  answered-left : Divisible L r p x → RimsLeft L p x (answered L r p x (split_bad_vertices L p) (outcome_of L p x))
  answered-left s =
      record {
        rims = e.2 ∙ (λ j. rims_by x.node_count_of (sym e.1 j) (sym all j) x.rims);
        listed = rw (all, e.1) (asks-listed L.share (pieces_of L p) labels (used_in x) n);
        cover = λ k u v. rw all (asks-cover L.share (pieces_of L p) labels (used_in x) n k (omega (arith, u, used)) (omega (arith, v, e.1)));
        beside =
            λ h. omega (
              arith,
              e.1,
              ap length e.2,
              rims_length x.node_count_of (length (nodes_of (outcome_of L p x))) (asked L p (used_in x)) x.rims,
              fits L r p x s,
              s.prepared.ready.rimmed,
            );
        kept = λ h. absurd (subst T (sym e.0 ∙ h) tt);
      }
    where
      a : CallAnswer
      a = answered L r p x (split_bad_vertices L p) (outcome_of L p x)

      labels : List Part
      labels = (split_bad_vertices L (all_marked p)).pieces

      n : ℕ
      n = length (pieces_of L p)

      e : (laid_out a.row.code ≡ true) × (a.row.nodes ≡ length (nodes_of (outcome_of L p x)))
          × (a.rims ≡ rims_left L p x (length (nodes_of (outcome_of L p x))))
      e = answered-rims L r p x (split_bad_vertices L p) (outcome_of L p x)

      all : asks_by L p x a ≡ asked L p (used_in x)
      all = ap (λ (b : Bool). cond b (asked L p (used_in x)) []) e.0

      used : length (used_in x) ≡ x.node_count_of
      used = length-take-le x.node_count_of x.nodes s.prepared.ready.listed

  -- of any entry
  pub rims-left_by : (rs : List Refusal) → T (numbered rs) → (Passes rs → Prepared L r p x) → RimsLeft L p x (refused_or x rs (core L r p x))
  rims-left_by rs n h = go (course L r p x rs n h)
    where
      a : CallAnswer
      a = refused_or x rs (core L r p x)

      go : Course L r p x a → RimsLeft L p x a
      go (away m t e) = subst (RimsLeft L p x) (sym e) (refused-left L p x m t)
      go (ran s e) = subst (RimsLeft L p x) (sym e) (answered-left s)
