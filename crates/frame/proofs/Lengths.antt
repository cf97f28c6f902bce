-- Claim: a list of 4,096 bytes holds the head of every picture, the line of a refused block, and the end.
use Prim.Native.Nat.{ℕ, zero, suc, ◌+◌, ◌-◌, ◌*◌, ◌≤◌}
use mathlib.Core.Bool.{Bool, true, false, cond}
use mathlib.Core.List.{List, [], ◌∷◌}
use native.Mathlib.Omega.{arith}
use lib.ListN.{length, length-append}
use lib.Dec.{ltb}
use Rattle.text.specs.Text.{bytes, slots}
use Rattle.svg.specs.Form.{formed, takes}
use Rattle.svg.proofs.Forms.{length-formed}
use Rattle.frame.specs.Seen.{Layout}
use Rattle.frame.specs.declared.Edges.{Edges}
use Rattle.frame.specs.declared.View.{View}
use Rattle.frame.specs.declared.Axes.{Axes}
use Rattle.frame.specs.Bounds.{upside_down}
use Rattle.frame.specs.Head.{box_text, looks_form, looks, axes_form, axes_text, head_text, ended_text, foot_text, view_of, axes_of, most_head}
use Rattle.frame.specs.Head.{eastward, below_text, northward, beside_text, tick_text, ticks_text}

pub box_length : (v : View) → length (box_text v) ≤ 298
unfolding box_text bytes slots takes
box_length v =
    length-formed (bytes "<svg xmlns='http://www.w3.org/2000/svg' width='@mm' height='@mm' viewBox='@ @ @ @' font-size='@' font-family='sans-serif'>\n")
    (v.wide ∷ v.tall ∷ v.x ∷ v.y ∷ v.wide ∷ v.tall ∷ v.letters ∷ [])

looks-length : length looks ≤ 1055
unfolding looks looks_form bytes slots takes
looks-length = length-formed looks_form []

axes_length : (f : Layout) (a : Axes) → length (axes_text f a) ≤ 1299
unfolding axes_text axes_form bytes slots takes
axes_length f a =
    length-formed axes_form
    (f.left ∷ a.under ∷ f.right ∷ a.beside ∷ f.low ∷ f.high
    ∷ a.line ∷ a.gap ∷ a.west ∷ a.under ∷ a.eastern
    ∷ a.line ∷ a.gap ∷ a.beside ∷ a.south ∷ a.northern
    ∷ f.left ∷ a.foot ∷ a.bar ∷ a.tip ∷ a.foot ∷ a.bar
    ∷ a.key ∷ a.above ∷ [])

pub ended-length : (f : Edges) (block code : ℕ) → length (ended_text f block code) ≤ 192
unfolding ended_text bytes slots takes
ended-length f block code =
    length-formed (bytes "<text class='ended' transform='matrix(.01 0 0 -.01 @ @)' y='4.8em'>block # refused #</text>\n")
    (f.left ∷ f.bottom ∷ block ∷ code ∷ [])

pub foot_length : length foot_text ≤ 12
unfolding foot_text bytes slots takes
foot_length = length-formed (bytes "</g>\n</svg>\n") []

-- ---- the numbers at the ticks
module _ (f : Layout) (i : ℕ) where
  abbrev below_label : List ℕ
  below_label =
      formed (bytes "<text class='label below' transform='matrix(.01 0 0 .01 @ @)' y='1.4em'>~</text>\n")
      (eastward f i ∷ (f.low + f.em) ∷ eastward f i ∷ [])

  below_length : length (below_text f i) ≤ 156
  unfolding below_text bytes slots takes
  below_length = go (ltb f.right (eastward f i))
    where
      go : (t : Bool) → length (cond t [] below_label) ≤ 156
      go true = omega arith
      go false =
          length-formed (bytes "<text class='label below' transform='matrix(.01 0 0 .01 @ @)' y='1.4em'>~</text>\n")
          (eastward f i ∷ (f.low + f.em) ∷ eastward f i ∷ [])

  abbrev beside_label : List ℕ
  beside_label =
      formed (bytes "<text class='label beside' transform='matrix(.01 0 0 .01 @ @)' x='-.6em' y='.35em'>~</text>\n")
      ((f.left - f.em) ∷ northward f i ∷ upside_down (northward f i) ∷ [])

  beside-length : length (beside_text f i) ≤ 167
  unfolding beside_text bytes slots takes
  beside-length = go (ltb (northward f i) f.high)
    where
      go : (t : Bool) → length (cond t [] beside_label) ≤ 167
      go true = omega arith
      go false =
          length-formed (bytes "<text class='label beside' transform='matrix(.01 0 0 .01 @ @)' x='-.6em' y='.35em'>~</text>\n")
          ((f.left - f.em) ∷ northward f i ∷ upside_down (northward f i) ∷ [])

  tick_length : length (tick_text f i) ≤ 323
  unfolding tick_text
  tick_length = rw length-append (omega (arith, below_length, beside-length))

ticks_length : (f : Layout) (n : ℕ) → length (ticks_text f n) ≤ 323 * n
unfolding ticks_text
ticks_length f zero = omega arith
ticks_length f (suc n) = rw length-append (omega (arith, ticks_length f n, tick_length f n))

pub head-length : (f : Layout) → length (head_text f) ≤ most_head
unfolding head_text
head-length f =
    rw (length-append, length-append, length-append)
    (omega (arith, box_length (view_of f), looks-length, ticks_length f 9, axes_length f (axes_of f)))
