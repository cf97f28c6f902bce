-- The head of a picture: the size in mm and the box, the looks of all classes, the axes with their numbers, the scale bar and the key; and its end.
-- Definitions only.
use Rattle.std.specs.Prelude.{ℕ, zero, suc, ◌+◌, ◌-◌, ◌*◌, ◌/◌, cond, List, [], ◌∷◌, ◌++◌, ltb}
use Rattle.text.specs.Text.{bytes}
use Rattle.svg.specs.Place.{origin}
use Rattle.svg.specs.Form.{formed}
use Rattle.frame.specs.Seen.{Layout}
use Rattle.frame.specs.declared.Edges.{Edges}
use Rattle.frame.specs.declared.View.{View}
use Rattle.frame.specs.declared.Axes.{Axes}
use Rattle.frame.specs.Bounds.{upside_down}

-- "prints to scale": width and height in mm, and the same in the units of the drawing
unfoldable pub view_of : Layout → View
view_of f =
    record {
      wide = origin + (f.right - f.left) + f.margin * 2;
      tall = origin + (f.low - f.high) + f.margin * 2;
      x = f.left - f.margin;
      y = f.high - f.margin;
      letters = origin + f.em;
    }

unfoldable pub box_text : View → List ℕ
box_text v =
    formed (bytes "<svg xmlns='http://www.w3.org/2000/svg' width='@mm' height='@mm' viewBox='@ @ @ @' font-size='@' font-family='sans-serif'>\n")
    (v.wide ∷ v.tall ∷ v.x ∷ v.y ∷ v.wide ∷ v.tall ∷ v.letters ∷ [])

-- how each class looks
unfoldable pub looks_form : List ℕ
looks_form =
    bytes "<style>path{fill:none}.outline{fill:aliceblue;fill-opacity:.7}.cell{fill:none;stroke:lightsteelblue;stroke-width:.07em}"
    ++ bytes ".rim{stroke:darkslategray;stroke-width:.15em;stroke-linecap:round}"
    ++ bytes ".cut{stroke:firebrick;stroke-width:.13em;stroke-dasharray:.45em .3em}"
    ++ bytes ".lead{fill:none;stroke:goldenrod;stroke-width:.5em;stroke-opacity:.5;stroke-linecap:round;stroke-linejoin:round}"
    ++ bytes ".snapped{fill:none;stroke:darkgoldenrod;stroke-width:.12em}"
    ++ bytes ".refused polygon{fill:gainsboro;fill-opacity:.6;stroke:gray;stroke-width:.1em}"
    ++ bytes ".refused text{fill:dimgray;font-size:150em;text-anchor:middle}.node circle{fill:darkslategray}"
    ++ bytes ".node,.inside,.label,.ended{font-size:100em}.inside circle{fill:steelblue}"
    ++ bytes ".node text,.inside text{font-size:.8em;fill:black;stroke:white;stroke-width:.2em;paint-order:stroke}.inside text{fill:steelblue}"
    ++ bytes ".axis{stroke:gray;stroke-width:.06em}.tick{stroke:gray;stroke-width:.6em}.bar{stroke:black;stroke-width:.25em}.label{fill:gray}"
    ++ bytes ".below{text-anchor:middle}.beside{text-anchor:end;font-size:85em}.key{font-size:75em;fill:dimgray}.ended{fill:firebrick}</style>\n"

unfoldable pub looks : List ℕ
looks = formed looks_form []

-- the first multiple of the step from x on, and the last up to x
unfoldable pub multiple_from : ℕ → ℕ → ℕ
multiple_from x step = (x + step - 1) / step * step

unfoldable pub multiple_to : ℕ → ℕ → ℕ
multiple_to x step = x / step * step

-- the axis below begins at the first multiple of the step, the one beside at the last, since an SVG counts downward
unfoldable pub axes_of : Layout → Axes
axes_of f =
    record {
      under = f.low + f.em;
      beside = f.left - f.em;
      line = origin + f.em / 8;
      gap = origin + (f.step - f.em / 8);
      eastern = f.right + f.em / 8;
      northern = f.high - f.em / 8;
      west = multiple_from f.left f.step;
      south = multiple_to f.low f.step;
      foot = f.low + f.em * 7 / 2;
      bar = origin + f.step;
      tip = f.left + f.step;
      key = f.right + f.em / 2;
      above = f.high - f.em * 9 / 2;
    }

-- tick i of the axis below and of the one beside, each with its number in mm; none beyond the end
unfoldable pub eastward : Layout → ℕ → ℕ
eastward f i = multiple_from f.left f.step + i * f.step

unfoldable pub below_text : Layout → ℕ → List ℕ
below_text f i =
    cond (ltb f.right (eastward f i)) []
    (formed (bytes "<text class='label below' transform='matrix(.01 0 0 .01 @ @)' y='1.4em'>~</text>\n")
    (eastward f i ∷ (f.low + f.em) ∷ eastward f i ∷ []))

unfoldable pub northward : Layout → ℕ → ℕ
northward f i = multiple_to f.low f.step - i * f.step

unfoldable pub beside_text : Layout → ℕ → List ℕ
beside_text f i =
    cond (ltb (northward f i) f.high) []
    (formed (bytes "<text class='label beside' transform='matrix(.01 0 0 .01 @ @)' x='-.6em' y='.35em'>~</text>\n")
    ((f.left - f.em) ∷ northward f i ∷ upside_down (northward f i) ∷ []))

unfoldable pub tick_text : Layout → ℕ → List ℕ
tick_text f i = below_text f i ++ beside_text f i

-- of the first i ticks of both
unfoldable pub ticks_text : Layout → ℕ → List ℕ
ticks_text f zero = []
ticks_text f (suc i) = ticks_text f i ++ tick_text f i

-- the two axes, their ticks as dashes a step apart, the scale bar, the key, and the group of all that is drawn, in which y grows upward
unfoldable pub axes_form : List ℕ
axes_form =
    bytes "<path class='axis' d='M@ @H@M@ @V@'/>\n"
    ++ bytes "<path class='tick' stroke-dasharray='@ @' d='M@ @H@'/>\n"
    ++ bytes "<path class='tick' stroke-dasharray='@ @' d='M@ @V@'/>\n"
    ++ bytes "<path class='bar' d='M@ @h@'/><text class='label' transform='matrix(.01 0 0 .01 @ @)' x='.5em' y='.35em'>~ mm</text>\n"
    ++ bytes "<g class='key' transform='matrix(.01 0 0 .01 @ @)'><line class='cut' x2='1.4em'/><text x='1.7em' y='.3em'>cut</text>"
    ++ bytes "<line class='cell' x2='1.4em' y1='1.2em' y2='1.2em'/><text x='1.7em' y='1.5em'>cell</text>"
    ++ bytes "<line class='lead' x1='.3em' x2='1.1em' y1='2.4em' y2='2.4em'/><text x='1.7em' y='2.7em'>lead</text>"
    ++ bytes "<circle class='snapped' cx='.7em' cy='3.6em' r='.5em'/><text x='1.7em' y='3.9em'>snapped</text></g>\n"
    ++ bytes "<g transform='scale(1 -1)'>\n"

unfoldable pub axes_text : Layout → Axes → List ℕ
axes_text f a =
    formed axes_form
    (f.left ∷ a.under ∷ f.right ∷ a.beside ∷ f.low ∷ f.high
    ∷ a.line ∷ a.gap ∷ a.west ∷ a.under ∷ a.eastern
    ∷ a.line ∷ a.gap ∷ a.beside ∷ a.south ∷ a.northern
    ∷ f.left ∷ a.foot ∷ a.bar ∷ a.tip ∷ a.foot ∷ a.bar
    ∷ a.key ∷ a.above ∷ [])

unfoldable pub head_text : Layout → List ℕ
head_text f = box_text (view_of f) ++ looks ++ ticks_text f 9 ++ axes_text f (axes_of f)

-- a refused block ends the run: its line, at the foot, by two edges of the picture
abbrev pub edges_of : Layout → Edges
edges_of f = record { left = f.left; bottom = f.bottom }

unfoldable pub ended_text : Edges → ℕ → ℕ → List ℕ
ended_text f block code =
    formed (bytes "<text class='ended' transform='matrix(.01 0 0 -.01 @ @)' y='4.8em'>block # refused #</text>\n")
    (f.left ∷ f.bottom ∷ block ∷ code ∷ [])

unfoldable pub foot_text : List ℕ
foot_text = formed (bytes "</g>\n</svg>\n") []

-- none of these is longer
abbrev pub most_head : ℕ
most_head = 8192
