-- `put_spaces`: the places are filled at once.
use Prim.Native.Nat.{ℕ, ◌+◌, ◌-◌}
use native.Mathlib.Omega.{arith}
use mathlib.Core.Path.{◌≡◌, refl, sym, ap, ◌∙◌}
use mathlib.Core.List.{List, ◌++◌, append_assoc}
use lib.ListN.{length, replicate, take, drop, length-take, length-drop}
use lib.Seq.{drop-drop}
use borrow.Rule.Slice.PartMut.{put_mid}
use Rattle.std.proofs.lemmas.List.{length-replicate}
use Rattle.text.specs.Text.{put}
use Rattle.listing.proofs.put_spaces.Goals as goal

pub returns : goal.returns
unfolding put
returns c =
    let p = c.args.page.now in
    let l : List ℕ = p.out.now in
    let n : ℕ = c.args.n in
    let t : List ℕ = replicate n 32 in
    let s : length t ≡ n = length-replicate n 32 in
    let k : p.at + n - p.at ≡ n = omega arith in
    let long : length (take (p.at + n - p.at) (drop p.at l)) ≡ n = simp (length-take, length-drop) (omega (arith, c.requires.fits, s)) in
    let filled : c.fill.new.self ≡ t = c.fill.ensures.after (λ y e. e) ∙ ap (λ (m : ℕ). replicate m 32) long in
    record {
      list = refl;
      text = record {
        place = ap (λ (m : ℕ). p.at + m) (sym s);
        list = (λ j. put_mid p.at (k j) l (filled j))
            ∙ ap (λ (r : List ℕ). take p.at l ++ (t ++ r)) (drop-drop n p.at l ∙ ap (λ (m : ℕ). drop (p.at + m) l) (sym s))
            ∙ sym (append_assoc (take p.at l) t (drop (p.at + length t) l));
      };
    }
