-- The parts of a picture, each of which stands at the front of all that comes after it (`Starts`), and so is owed when as
-- many bytes were written as stand before it (`owes_head`, `due`, `owes_node`, `owes_foot`); and one more block of a job (`turned`, `drew`). Where the run has
-- ended, all rings are drawn (`rings-drawn`). What each part adds is what the writer gets (`drew_more`, `node_more`, `all_written`).
use Prim.Native.Nat.{ℕ, zero, suc, ◌+◌, ◌-◌, ◌*◌, ◌/◌, ◌≤◌, ◌<◌}
use mathlib.Core.Path.{◌≡◌, refl, sym, ap, subst, ◌∙◌}
use mathlib.Core.Bool.{true, false}
use mathlib.Core.Logic.{◌⊎◌, inl, inr, ⊎_elim}
use mathlib.Core.List.{List, [], ◌++◌, append_assoc, append-nil}
use native.Mathlib.Nat.{eq-or-lt_of_le}
use native.Mathlib.Numerals.{add-one}
use native.Mathlib.Omega.{arith}
use lib.ListN.{length, take, drop, length-append, length-take, length-drop}
use lib.Seq.{take_at}
use lib.IntN.{ℤ}
use lib.Ieee.{Float}
use Rattle.std.specs.declared.option.Option.{Option}
use Rattle.std.specs.Io.KnownBytes.{Appends}
use Rattle.std.proofs.KnownBytes.{Appends-nil, Appends-trans}
use Rattle.text.specs.Text.{put, Written}
use Rattle.text.specs.declared.Page.{Page}
use Rattle.text.specs.Page.{Wrote as Wrote_on}
use Rattle.text.proofs.Writing.{kept}
use Rattle.told.specs.Text.{tells_of}
use Rattle.state.specs.declared.State.{State}
use Rattle.job.specs.declared.Stepped.{Stepped}
use Rattle.job.specs.Step.{Step, step_of, Steps, CanStep}
use Rattle.job.specs.Run.{RunSoFar, start, no_points, no_nodes, no_rims, ran, read_to, whole_run, block_at}
use Rattle.job.proofs.Runs.{Went, outcome, not-both, stays, goes, ran-held}
use Rattle.job.proofs.Printed.{one_more, settles}
use Rattle.run.specs.declared.Job.{Job}
use Rattle.run.specs.Onward.{Begins}
use Rattle.scene.specs.Scene.{node_text, nodes_text}
use Rattle.frame.specs.declared.Frame.{Frame}
use Rattle.frame.specs.declared.Edges.{Edges}
use Rattle.frame.specs.Bounds.{extent_of, frame_of}
use Rattle.frame.specs.Head.{head_text, edges_of, foot_text}
use Rattle.sketch.specs.Drawn.{drawn, lead_at}
use Rattle.picture.specs.Picture.{on, step_drawn, drawn_to}
use Rattle.picture.specs.Picture.{rings_drawn, nodes_drawn, all_drawn, pictured, most_rings, most_picture}
use Rattle.picture.specs.Picture.{Wrote, Owed, Sends, Grows, Reached, Drew, Left}
use Rattle.picture.proofs.Listed.{few-nodes}

-- a text that was written on an empty page is all that stands there
module _ {p q : Page} {t : List ℕ} (z : p.at ≡ 0) (h : q.at ≤ length p.out.now) (w : Wrote_on p t q) where
  pub as-long : q.at ≡ length t
  as-long = omega (arith, w.text.place, z)

  pub on-page : on q ≡ t
  unfolding put
  on-page =
      let e = (subst (λ (k : ℕ). Written p.out.now k t q.at q.out.now) z w.text).list in
      let l : length t ≡ 0 + length t = omega arith in
      (λ j. take (as-long j) (e j)) ∙ take_at t (drop (0 + length t) p.out.now) (length t) refl

  pub within-page : q.at ≤ length q.out.now
  within-page = omega (arith, kept p.out.now p.at t (omega (arith, h, w.text.place)) w.text, h)

-- what is drawn of a step, and of a run that goes on
abbrev pub drawn_of : Frame → Step → List ℕ
drawn_of f e = drawn (edges_of f) e.told e.state.count e.points e.nodes e.rims e.cells

steps_drawn : (f : Frame) (r : RunSoFar) (b lead : List ℕ) → r.state.ended ≡ false
    → step_drawn f r b lead ≡ drawn_of f (step_of r.state r.points r.nodes r.rims b) ++ lead
unfolding step_drawn
steps_drawn f r b lead e = rw e

none-drawn : (f : Frame) (r : RunSoFar) (b lead : List ℕ) → r.state.ended ≡ true → step_drawn f r b lead ≡ []
unfolding step_drawn
none-drawn f r b lead e = rw e

-- ---- texts that stand at the front of longer ones
record Starts (b a : List ℕ) : Type 0 where
  pub rest : List ℕ
  pub whole : b ≡ a ++ rest

starts_so : (a : List ℕ) → Starts a a
starts_so a = record { rest = []; whole = sym (append-nil a) }

starts_more : {a b : List ℕ} → Starts b a → (c : List ℕ) → Starts (b ++ c) a
starts_more {a} {b} h c = record { rest = h.rest ++ c; whole = ap (λ (z : List ℕ). z ++ c) h.whole ∙ append_assoc a h.rest c }

-- a text that grows part by part: g i is what stands after i parts, p i the next
module _ (g p : ℕ → List ℕ) (step : (i : ℕ) → g (suc i) ≡ g i ++ p i) where
  starts : (i n : ℕ) → i ≤ n → Starts (g n) (g i)
  starts i zero h = let e : i ≡ 0 = omega arith in subst (λ (k : ℕ). Starts (g 0) (g k)) (sym e) (starts_so (g 0))
  starts i (suc n) h =
      ⊎_elim
      (λ (e : i ≡ suc n). subst (λ (k : ℕ). Starts (g (suc n)) (g k)) (sym e) (starts_so (g (suc n))))
      (λ (k : i < suc n). subst (λ (z : List ℕ). Starts z (g i)) (sym (step n)) (starts_more (starts i n (omega arith)) (p n)))
      (eq-or-lt_of_le h)

  next-part : (i n : ℕ) → i < n → Starts (g n) (g i ++ p i)
  next-part i n h = subst (Starts (g n)) (step i) (starts (suc i) n (omega arith))

owes : {job before t : List ℕ} {sent : ℕ} → Wrote before sent → Starts (pictured job) (before ++ t) → Owed job sent t
owes {job} {before} {t} {sent} w q = record { before = before; after = q.rest; wrote = w; whole = q.whole }

pub owed_as : {job t u : List ℕ} {sent : ℕ} → t ≡ u → Owed job sent u → Owed job sent t
owed_as {job} {t} {u} {sent} e o = subst (Owed job sent) (sym e) o

-- ---- what was written, part by part
pub grows_none : (a : Option (List ℕ)) (t : List ℕ) → Grows a a t t
grows_none a t = record { part = []; whole = sym (append-nil t); bytes = Appends-nil a }

pub grows_on : (a b c : Option (List ℕ)) (t u v : List ℕ) → Grows a b t u → Grows b c u v → Grows a c t v
grows_on a b c t u v g h =
    record {
      part = g.part ++ h.part;
      whole = h.whole ∙ ap (λ (z : List ℕ). z ++ h.part) g.whole ∙ append_assoc t g.part h.part;
      bytes = Appends-trans a b c g.part h.part g.bytes h.bytes;
    }

-- ---- the parts of the picture of a job: the head and the rings
module _ (job : List ℕ) where
  abbrev frame : Frame
  frame = frame_of (extent_of job)

  abbrev step_text : ℕ → List ℕ
  step_text i = step_drawn frame (ran (read_to job i)) (block_at job i) (lead_at job i)

  abbrev dot : ℕ → List ℕ
  dot i = node_text (whole_run job).nodes (whole_run job).rims i

  one-drawn : (i : ℕ) → drawn_to frame job (suc i) ≡ drawn_to frame job i ++ step_text i
  unfolding drawn_to
  one-drawn i = refl

  after-rings : {t : List ℕ} → Starts (drawn_to frame job (length job / 512 + 1)) t → Starts (pictured job) t
  unfolding pictured all_drawn nodes_drawn rings_drawn
  after-rings h = starts_more (starts_more h _) _

  head_first : Starts (pictured job) (head_text frame)
  unfolding drawn_to
  head_first = after-rings (starts (drawn_to frame job) step_text one-drawn 0 (length job / 512 + 1) (omega arith))

  pub owes_head : (f : Frame) (sent : ℕ) → f ≡ frame_of (extent_of job) → sent ≡ 0 → Owed job sent (head_text f)
  owes_head f sent e z = owed_as (ap head_text e) (owes {before = []} (record { count = z; bound = omega (arith, z) }) head_first)

  owes_step : (i sent : ℕ) → i < length job / 512 + 1 → Wrote (drawn_to frame job i) sent → Owed job sent (step_text i)
  owes_step i sent h w = owes w (after-rings (next-part (drawn_to frame job) step_text one-drawn i (length job / 512 + 1) h))

  -- a run that has ended draws no more rings
  module _ (i : ℕ) (e : (ran (read_to job i)).state.ended ≡ true) where
    settled : (k : ℕ) → (ran (read_to job (k + i)) ≡ ran (read_to job i)) × (drawn_to frame job (k + i) ≡ drawn_to frame job i)
    settled zero = let q : 0 + i ≡ i = omega arith in (ap (λ (m : ℕ). ran (read_to job m)) q, ap (drawn_to frame job) q)
    settled (suc k) =
        let a : suc k + i ≡ suc (k + i) = omega arith in
        let q = settled k in
        let d : (ran (read_to job (k + i))).state.ended ≡ true = ap (λ (r : RunSoFar). r.state.ended) q.0 ∙ e in (
          ap (λ (m : ℕ). ran (read_to job m)) a ∙ one_more job (k + i) ∙ stays (ran (read_to job (k + i))) (block_at job (k + i)) d ∙ q.0,
          ap (drawn_to frame job) a
              ∙ one-drawn (k + i)
              ∙ ap (λ (z : List ℕ). drawn_to frame job (k + i) ++ z)
              (none-drawn frame (ran (read_to job (k + i))) (block_at job (k + i)) (lead_at job (k + i)) d)
              ∙ append-nil (drawn_to frame job (k + i))
              ∙ q.1,
        )

    all-rings : i ≤ length job / 512 + 1 → drawn_to frame job i ≡ rings_drawn job
    unfolding rings_drawn
    all-rings h =
        let n = length job / 512 + 1 in
        let q : (n - i) + i ≡ n = omega arith in
        sym (settled (n - i)).1 ∙ ap (drawn_to frame job) q

  -- ---- the nodes and the foot
  one-node : (i : ℕ) → nodes_drawn job (suc i) ≡ nodes_drawn job i ++ dot i
  unfolding nodes_drawn nodes_text
  one-node i = sym (append_assoc (rings_drawn job) (nodes_text (whole_run job).nodes (whole_run job).rims i) (dot i))

  pub no_nodes_lem : length (rings_drawn job) ≡ length (nodes_drawn job 0)
  unfolding nodes_drawn nodes_text
  no_nodes_lem = ap length (sym (append-nil (rings_drawn job)))

  after-nodes : {t : List ℕ} → Starts (nodes_drawn job (whole_run job).state.used) t → Starts (pictured job) t
  unfolding pictured all_drawn
  after-nodes h = starts_more h _

  pub owes_foot : (sent : ℕ) → Wrote (all_drawn job) sent → Owed job sent foot_text
  unfolding pictured
  owes_foot sent w = owes w (starts_so (all_drawn job ++ foot_text))

  pub foot-last : (sent n : ℕ) → Wrote (all_drawn job) sent → n ≡ sent + length foot_text → n ≡ length (pictured job)
  unfolding pictured
  foot-last sent n w e = omega (arith, e, w.count, length-append (all_drawn job) foot_text)

  pub no_nodes_more : (a : Option (List ℕ)) → Grows a a (rings_drawn job) (nodes_drawn job 0)
  unfolding nodes_drawn nodes_text
  no_nodes_more a = record { part = []; whole = refl; bytes = Appends-nil a }

  -- the head, the parts after it and the foot are the whole
  pub all_written : (f : Frame) (a b c d : Option (List ℕ)) → Appends a b (head_text f) → Grows b c (head_text f) (all_drawn job) → Appends c d foot_text
      → Appends a d (pictured job)
  unfolding pictured
  all_written f a b c d p g q =
      let e : all_drawn job ++ foot_text ≡ head_text f ++ (g.part ++ foot_text) =
      ap (λ (z : List ℕ). z ++ foot_text) g.whole ∙ append_assoc (head_text f) g.part foot_text in
      subst (Appends a d) (sym e) (Appends-trans a b d (head_text f) (g.part ++ foot_text) p (Appends-trans b c d g.part foot_text g.bytes q))

  module _ (used : ℕ) (l : List Float) (rs : List ℕ) (h : Left job used l rs) where
    pub few-left : used ≤ 1536
    unfolding whole_run
    few-left = omega (arith, h.count, few-nodes (read_to job (length job / 512 + 1)))

    same-dot : (i : ℕ) → node_text l rs i ≡ dot i
    same-dot i = let a = h.nodes in let b = h.rims in λ j. node_text (a j) (b j) i

    pub owes_node : (i sent : ℕ) (t : List ℕ) → i < used → Wrote (nodes_drawn job i) sent → t ≡ node_text l rs i → Owed job sent t
    owes_node i sent t k w e =
        owed_as (e ∙ same-dot i) (owes w (after-nodes (next-part (nodes_drawn job) dot one-node i (whole_run job).state.used (omega (arith, k, h.count)))))

    pub more-nodes : (i sent n : ℕ) (t : List ℕ) → sent ≡ length (nodes_drawn job i) → t ≡ node_text l rs i → n ≡ sent + length t
        → n ≡ length (nodes_drawn job (i + 1))
    more-nodes i sent n t e d q =
        rw (add-one i) (omega (arith, q, e, ap length (d ∙ same-dot i), ap length (one-node i), length-append (nodes_drawn job i) (dot i)))

    pub node_more : (i : ℕ) (t : List ℕ) → t ≡ node_text l rs i → (a b c : Option (List ℕ)) → Grows a b (rings_drawn job) (nodes_drawn job i) → Appends b c t
        → Grows a c (rings_drawn job) (nodes_drawn job (i + 1))
    node_more i t e a b c g w =
        rw (add-one i)
        (grows_on a b c _ _ _ g (record { part = t; whole = one-node i ∙ ap (λ (z : List ℕ). nodes_drawn job i ++ z) (sym (e ∙ same-dot i)); bytes = w }))

    pub all_nodes_more : (i : ℕ) → i ≡ used → (a b : Option (List ℕ)) → Grows a b (rings_drawn job) (nodes_drawn job i)
        → Grows a b (rings_drawn job) (all_drawn job)
    unfolding all_drawn
    all_nodes_more i e a b g = subst (λ (k : ℕ). Grows a b (rings_drawn job) (nodes_drawn job k)) (e ∙ h.count) g

    pub all-nodes : (i sent : ℕ) → i ≡ used → sent ≡ length (nodes_drawn job i) → sent ≤ most_picture → Wrote (all_drawn job) sent
    unfolding all_drawn
    all-nodes i sent e q b = record { count = q ∙ ap (λ (k : ℕ). length (nodes_drawn job k)) (e ∙ h.count); bound = b }

-- ---- what the first i blocks of a job reach, and what is drawn of them
-- a run under way, or ended: so many blocks reach it, and they are drawn behind the head
pub record At (job : List ℕ) (s : State) (ps : List ℤ) (l : List Float) (rs : List ℕ) (sent : ℕ) (out cur : Option (List ℕ)) : Type 0 where
  pub blocks : ℕ
  pub reached : Reached job blocks s ps l rs
  pub drew : Drew job blocks sent
  pub text : Grows out cur (head_text (frame job)) (drawn_to (frame job) job blocks)

pub drew_head : (job : List ℕ) (f : Frame) (sent : ℕ) → f ≡ frame_of (extent_of job) → sent ≡ length (head_text f) → sent ≤ 8192 → Drew job 0 sent
unfolding drawn_to
drew_head job f sent e q b = record { count = q ∙ ap (λ (g : Frame). length (head_text g)) e; bound = omega (arith, b) }

pub head_alone : (job : List ℕ) (a : Option (List ℕ)) → Grows a a (head_text (frame job)) (drawn_to (frame job) job 0)
unfolding drawn_to
head_alone job a = grows_none a (head_text (frame job))

begun : (job : List ℕ) → Reached job 0 start no_points no_nodes no_rims
unfolding ran read_to
begun job = record { state = refl; points = refl; nodes = refl; rims = refl; numbered = λ e. refl; within = λ e. omega arith; turns = omega arith }

pub begins : (job : List ℕ) (j : Job) → Begins j → Reached job 0 j.state j.ring j.nodes j.rims
begins job j b = rw (b.state, b.points, b.nodes, b.rims) (begun job)

module _ (job : List ℕ) (i : ℕ) (s : State) (ps : List ℤ) (l : List Float) (rs : List ℕ) (r : Reached job i s ps l rs) where
  pub can_step : CanStep s ps
  can_step =
      let h = ran-held (read_to job i) in
      record { few = omega (arith, ap (λ (z : State). z.count) r.state, h.few); long = ap length r.points ∙ h.long }

  module _ (e : s.ended ≡ true) where
    ended : (ran (read_to job i)).state.ended ≡ true
    ended = ap (λ (z : State). z.ended) (sym r.state) ∙ e

    pub left : Left job s.used l rs
    left =
        let w = settles job i ended in
        record {
          count = ap (λ (z : State). z.used) r.state ∙ ap (λ (c : RunSoFar). c.state.used) w;
          nodes = r.nodes ∙ ap (λ (c : RunSoFar). c.nodes) w;
          rims = r.rims ∙ ap (λ (c : RunSoFar). c.rims) w;
        }

    pub rings-drawn : (sent : ℕ) → Drew job i sent → length job < 4294967296 → (sent ≡ length (rings_drawn job)) × (sent ≤ most_rings)
    rings-drawn sent d h = (d.count ∙ ap length (all-rings job i ended r.turns), omega (arith, d.bound, r.turns, h))

    -- the rings and the nodes were written behind the head
    pub all_more : (f : Frame) → f ≡ frame job → (a b c : Option (List ℕ)) → Grows a b (head_text (frame job)) (drawn_to (frame job) job i)
        → Grows b c (rings_drawn job) (all_drawn job) → Grows a c (head_text f) (all_drawn job)
    all_more f q a b c g k =
        subst (λ (x : Frame). Grows a c (head_text x) (all_drawn job)) (sym q)
        (grows_on a b c _ _ _ (subst (Grows a b (head_text (frame job))) (all-rings job i ended r.turns) g) k)

  module _ (e : s.ended ≡ false) (b : List ℕ) (eb : b ≡ block_at job i) where
    going : (ran (read_to job i)).state.ended ≡ false
    going = ap (λ (z : State). z.ended) (sym r.state) ∙ e

    abbrev now : RunSoFar
    now = ran (read_to job i)

    same : step_of s ps l rs b ≡ step_of now.state now.points now.nodes now.rims (block_at job i)
    same = let a = r.state in let p = r.points in let n = r.nodes in let w = r.rims in λ j. step_of (a j) (p j) (n j) (w j) (eb j)

    module _ (x : Stepped) (qs : List ℤ) (m : List Float) (w c : List ℕ) (p : Steps (step_of s ps l rs b) x qs m w c) where
      module _ (f : Edges) (ef : f ≡ edges_of (frame_of (extent_of job))) where
        abbrev text : List ℕ
        text = drawn f (tells_of x.told) x.state.count qs m w c ++ lead_at job i

        its-text : text ≡ step_drawn (frame_of (extent_of job)) now (block_at job i) (lead_at job i)
        its-text =
            let et = p.told in
            let es = p.state in
            let ep = p.points in
            let en = p.nodes in
            let er = p.rims in
            let ec = p.cells in
            (λ j. drawn (ef j) (et j) (es j).count (ep j) (en j) (er j) (ec j) ++ lead_at job i)
            ∙ ap (λ (z : Step). drawn_of (frame_of (extent_of job)) z ++ lead_at job i) same
            ∙ sym (steps_drawn (frame_of (extent_of job)) now (block_at job i) (lead_at job i) going)

        -- what is drawn of the step is owed, and once it is sent it is drawn
        pub due : (sent : ℕ) → Drew job i sent → length job < 4294967296 → Owed job sent text
        due sent d h =
            owed_as its-text (owes_step job i sent (omega (arith, r.within e)) (record { count = d.count; bound = omega (arith, d.bound, r.turns, h) }))

        pub drew : (sent n : ℕ) → Drew job i sent → Sends sent text n → Drew job (i + 1) n
        drew sent n d q =
            rw (add-one i) (
            let a = length-append (drawn_to (frame_of (extent_of job)) job i) (step_drawn (frame_of (extent_of job)) now (block_at job i) (lead_at job i)) in
            record {
              count = omega (arith, d.count, q.count, ap length its-text, ap length (one-drawn job i), a);
              bound = omega (arith, d.bound, q.count, q.short);
            }
            )

        pub drew_more : (a b : Option (List ℕ)) → Appends a b text
            → Grows a b (drawn_to (frame_of (extent_of job)) job i) (drawn_to (frame_of (extent_of job)) job (i + 1))
        drew_more a b w =
            rw (add-one i) (record {
              part = text;
              whole = one-drawn job i ∙ ap (λ (z : List ℕ). drawn_to (frame_of (extent_of job)) job i ++ z) (sym its-text);
              bytes = w;
            })

      next_block : x.state.ended ≡ false → (x.state.block ≡ suc i) × (512 * suc i ≤ length job)
      next_block h = by (outcome s ps l rs b)
        where
          by : ((step_of s ps l rs b).state.ended ≡ true) ⊎ Went s b (step_of s ps l rs b) → (x.state.block ≡ suc i) × (512 * suc i ≤ length job)
          by (inl z) = not-both x.state.ended (ap (λ (y : State). y.ended) p.state ∙ z) h
          by (inr g) = (
            omega (arith, ap (λ (y : State). y.block) p.state, g.next, r.numbered e),
            omega (arith, g.whole, ap length eb, length-take 512 (drop (512 * i) job), length-drop (512 * i) job),
          )

      pub turned : Reached job (suc i) x.state qs m w
      turned =
          let n = one_more job i ∙ goes (ran (read_to job i)) (block_at job i) going in
          record {
            state = p.state ∙ ap (λ (y : Step). y.state) same ∙ sym (ap (λ (y : RunSoFar). y.state) n);
            points = p.points ∙ ap (λ (y : Step). y.points) same ∙ sym (ap (λ (y : RunSoFar). y.points) n);
            nodes = p.nodes ∙ ap (λ (y : Step). y.nodes) same ∙ sym (ap (λ (y : RunSoFar). y.nodes) n);
            rims = p.rims ∙ ap (λ (y : Step). y.rims) same ∙ sym (ap (λ (y : RunSoFar). y.rims) n);
            numbered = λ h. (next_block h).0;
            within = λ h. (next_block h).1;
            turns = omega (arith, r.within e);
          }
